use Rattle.std.proofs.Common.{◌≡◌, drop}
use Rattle.std.specs.List.{list_all}
use Rattle.csv.specs.Records.{fields_of}
use Rattle.direction_table.specs.FieldForms as spec
use Rattle.direction_table.proofs.field.are_blank_from.Given as goal

abbrev pub invariant-loop-at : goal.invariant-loop-at
invariant-loop-at l = list_all spec.is_blank (drop l.at (fields_of l.row))
    ≡ list_all spec.is_blank (drop l.from (fields_of l.row))
