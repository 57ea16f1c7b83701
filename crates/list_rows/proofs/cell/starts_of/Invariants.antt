use Rattle.std.proofs.Common.{◌≡◌, map, take}
use Rattle.list_rows.specs.RowPieces.{start_text}
use Rattle.list_rows.proofs.cell.starts_of.Given as goal

abbrev pub invariant-loop-set : goal.invariant-loop-set
invariant-loop-set l =
    l.starts.items ≡ map (start_text l.form l.station.name) (take l.set-index l.set-items)
