use Rattle.std.proofs.Common.{length}
use Rattle.set_marks.proofs.Asking.{KeptSoFar}
use Rattle.set_marks.proofs.set.again_kept.Given as goal

abbrev pub invariant-sights : goal.invariant-sights
invariant-sights l = KeptSoFar l.set l.left l.faces

abbrev pub decreases-sights : goal.decreases-sights
decreases-sights l = length l.left
