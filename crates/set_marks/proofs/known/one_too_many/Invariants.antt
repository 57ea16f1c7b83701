use Rattle.std.proofs.Common.{◌≡◌, [], length}
use Rattle.set_marks.specs.Divisions.{one_too_many}
use Rattle.set_marks.proofs.known.one_too_many.Given as goal

abbrev pub invariant-sights : goal.invariant-sights
invariant-sights l = one_too_many l.names l.left ≡ one_too_many [] l.sights

abbrev pub decreases-sights : goal.decreases-sights
decreases-sights l = length l.left
