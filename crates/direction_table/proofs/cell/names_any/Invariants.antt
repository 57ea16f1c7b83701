use Rattle.std.proofs.Common.{◌≡◌, drop}
use Rattle.std.specs.List.{list_any}
use Rattle.csv.specs.Records.{fields_of}
use Rattle.direction_table.specs.FieldForms.{has_name, named}
use Rattle.direction_table.proofs.cell.names_any.Given as goal

abbrev pub invariant-loop-column : goal.invariant-loop-column
invariant-loop-column l =
    list_any (λ field. has_name l.targets (named l.targets field)) (drop l.column (fields_of l.row))
    ≡ list_any (λ field. has_name l.targets (named l.targets field)) (fields_of l.row)
