use Rattle.std.proofs.Common.{◌≡◌}
use Rattle.direction_table.specs.NamingRows.{naming_rows}
use Rattle.direction_table.specs.Separators.{first_of}
use Rattle.direction_table.proofs.RowsLeft.{naming_from}
use Rattle.direction_table.proofs.number_columns.Naming.first_cell.Given as goal

abbrev pub invariant-loop-row : goal.invariant-loop-row
invariant-loop-row l = first_of (naming_from l.self l.row-index) ≡ first_of (naming_rows l.self)
