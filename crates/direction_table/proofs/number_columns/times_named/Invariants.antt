use Rattle.std.proofs.Common.{◌≡◌, ◌≤◌, ◌+◌, map}
use Rattle.csv.specs.Records.{fields_of}
use Rattle.direction_table.specs.NumberColumns as spec
use Rattle.direction_table.proofs.RowsLeft.{rows_from}
use Rattle.direction_table.proofs.number_columns.times_named.Given as goal

abbrev pub invariant-loop-row : goal.invariant-loop-row
invariant-loop-row l =
    (l.times + spec.times_named l.targets l.column (rows_from l.rows l.row-index) l.target
    ≡ spec.times_named l.targets l.column (map fields_of l.rows) l.target)
    × (l.times ≤ l.row-index)
