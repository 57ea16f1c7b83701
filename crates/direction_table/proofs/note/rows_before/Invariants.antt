use Rattle.std.proofs.Common.{◌≡◌, ◌+◌, map, not}
use Rattle.std.specs.List.{prefix_len}
use Rattle.csv.specs.Records.{fields_of}
use Rattle.direction_table.specs.Cells.{names_in}
use Rattle.direction_table.proofs.RowsLeft.{rows_from}
use Rattle.direction_table.proofs.note.rows_before.Given as goal

abbrev pub invariant-loop-place : goal.invariant-loop-place
invariant-loop-place l =
    l.place + prefix_len (λ row. not (names_in l.targets l.names row)) (rows_from l.rows l.place)
    ≡ prefix_len (λ row. not (names_in l.targets l.names row)) (map fields_of l.rows)
