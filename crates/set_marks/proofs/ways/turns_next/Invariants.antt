use Rattle.std.proofs.Common.{◌≡◌, length}
use Rattle.set_marks.specs.Searching.{turns_next}
use Rattle.set_marks.proofs.ways.turns_next.Given as goal

abbrev pub invariant-sights : goal.invariant-sights
invariant-sights l = turns_next l.sight l.left ≡ turns_next l.sight l.later

abbrev pub decreases-sights : goal.decreases-sights
decreases-sights l = length l.left
