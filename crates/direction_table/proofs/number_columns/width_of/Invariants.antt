use Rattle.std.proofs.Common.{◌≡◌, map}
use Rattle.std.specs.Prelude.{max}
use Rattle.csv.specs.Records.{fields_of}
use Rattle.direction_table.specs.NumberColumns as spec
use Rattle.direction_table.proofs.RowsLeft.{rows_from}
use Rattle.direction_table.proofs.number_columns.width_of.Given as goal

abbrev pub invariant-loop-row : goal.invariant-loop-row
invariant-loop-row l = max l.width (spec.width_of (rows_from l.rows l.row-index))
    ≡ spec.width_of (map fields_of l.rows)
