use Rattle.std.proofs.Common.{◌≡◌}
use Rattle.direction_table.specs.NamingRows.{naming_rows}
use Rattle.direction_table.specs.TakenCells.{cells_of_each}
use Rattle.direction_table.proofs.RowsLeft.{naming_from}
use Rattle.direction_table.proofs.number_columns.Naming.cells_of_each.Given as goal

abbrev pub invariant-loop-row : goal.invariant-loop-row
invariant-loop-row l = cells_of_each l.unit l.column (naming_from l.self l.row-index)
    ≡ cells_of_each l.unit l.column (naming_rows l.self)
