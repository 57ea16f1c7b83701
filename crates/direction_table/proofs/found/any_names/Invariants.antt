use Rattle.std.proofs.Common.{◌≡◌, map}
use Rattle.std.specs.List.{list_any}
use Rattle.csv.specs.Records.{fields_of}
use Rattle.direction_table.specs.Cells.{names_in}
use Rattle.direction_table.proofs.RowsLeft.{rows_from}
use Rattle.direction_table.proofs.found.any_names.Given as goal

abbrev pub invariant-loop-row : goal.invariant-loop-row
invariant-loop-row l = list_any (names_in l.targets l.names) (rows_from l.rows l.row-index)
    ≡ list_any (names_in l.targets l.names) (map fields_of l.rows)
