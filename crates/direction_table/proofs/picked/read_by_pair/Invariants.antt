use Rattle.direction_table.proofs.RowsPicked.{IsReadTo}
use Rattle.direction_table.proofs.picked.read_by_pair.Given as goal

abbrev pub invariant-loop-place : goal.invariant-loop-place
invariant-loop-place l = IsReadTo l.unit l.targets l.pair l.rows l.taken
    l.directions.items l.finest_step l.place l.place-end l.has_begun
