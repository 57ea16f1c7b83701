use Rattle.std.proofs.Common.{◌≡◌, filter, map}
use Rattle.csv.specs.Records.{fields_of}
use Rattle.direction_table.specs.NumberColumns as spec
use Rattle.direction_table.proofs.number_columns.naming_columns.Given as goal

abbrev pub invariant-loop-column : goal.invariant-loop-column
invariant-loop-column l = l.columns.items
    ≡ filter (spec.is_naming l.targets (map fields_of l.rows)) (spec.columns_below l.column)
