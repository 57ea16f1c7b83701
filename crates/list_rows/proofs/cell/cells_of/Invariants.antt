use Rattle.std.proofs.Common.{◌≡◌, map, take}
use Rattle.list_rows.specs.RowPieces.{cell_text}
use Rattle.list_rows.proofs.cell.cells_of.Given as goal

abbrev pub invariant-loop-name : goal.invariant-loop-name
invariant-loop-name l = l.cells.items ≡ map (cell_text l.form) (take l.name-index l.names)
