use Rattle.std.proofs.Common.{◌≡◌, ◌++◌, length}
use Rattle.set_marks.specs.LinePlaces.{placed_by}
use Rattle.set_marks.specs.Placing.{placed}
use Rattle.set_marks.proofs.placing.placed.Given as goal

abbrev pub invariant-marks : goal.invariant-marks
invariant-marks l =
    l.found.items ++ placed_by l.bytes l.number l.rest l.left ≡ placed l.bytes l.marks

abbrev pub decreases-marks : goal.decreases-marks
decreases-marks l = length l.rest
