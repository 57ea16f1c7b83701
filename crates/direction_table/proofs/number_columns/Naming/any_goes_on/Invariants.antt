use Rattle.std.specs.List.{list_any}
use Rattle.std.proofs.Common.{◌≡◌}
use Rattle.direction_table.specs.NamingRows.{naming_rows}
use Rattle.direction_table.specs.TakenCells.{goes_on}
use Rattle.direction_table.proofs.RowsLeft.{naming_from}
use Rattle.direction_table.proofs.number_columns.Naming.any_goes_on.Given as goal

abbrev pub invariant-loop-row : goal.invariant-loop-row
invariant-loop-row l = list_any (goes_on l.unit l.column) (naming_from l.self l.row-index)
    ≡ list_any (goes_on l.unit l.column) (naming_rows l.self)
