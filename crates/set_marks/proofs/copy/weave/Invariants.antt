use Rattle.std.proofs.Common.{◌≡◌, ◌++◌, length}
use Rattle.set_marks.specs.Copies.{woven, AreOrdered}
use Rattle.set_marks.proofs.copy.weave.Given as goal

abbrev pub invariant-marks : goal.invariant-marks
invariant-marks l = record {
  made : l.copy.items ++ woven l.from l.bytes l.left ≡ woven 0 l.bytes l.marks;
  ordered : AreOrdered l.from (length l.bytes) l.left;
}

abbrev pub decreases-marks : goal.decreases-marks
decreases-marks l = length l.left
