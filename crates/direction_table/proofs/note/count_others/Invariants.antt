use Rattle.std.proofs.Common.{◌≡◌, ◌≤◌, ◌+◌, filter, length, map, not}
use Rattle.csv.specs.Records.{fields_of}
use Rattle.direction_table.specs.Cells.{names_in}
use Rattle.direction_table.proofs.RowsLeft.{rows_from}
use Rattle.direction_table.proofs.note.count_others.Given as goal

abbrev pub invariant-loop-row : goal.invariant-loop-row
invariant-loop-row l =
    (l.count + length (filter (λ row. not (names_in l.targets l.names row))
    (rows_from l.rows l.row-index))
    ≡ length (filter (λ row. not (names_in l.targets l.names row)) (map fields_of l.rows)))
    × (l.count ≤ l.row-index)
