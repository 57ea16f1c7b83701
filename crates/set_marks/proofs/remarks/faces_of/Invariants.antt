use Rattle.std.proofs.Common.{length}
use Rattle.set_marks.proofs.Others.{KeepsFront}
use Rattle.set_marks.proofs.remarks.faces_of.Given as goal

abbrev pub invariant-sights : goal.invariant-sights
invariant-sights l = KeepsFront l.sights l.left l.faces

abbrev pub decreases-sights : goal.decreases-sights
decreases-sights l = length l.left
