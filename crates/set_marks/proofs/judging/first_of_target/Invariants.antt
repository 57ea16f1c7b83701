use Rattle.std.proofs.Common.{◌≡◌, length}
use Rattle.set_marks.specs.Judging.{first_of_target}
use Rattle.set_marks.proofs.judging.first_of_target.Given as goal

abbrev pub invariant-sights : goal.invariant-sights
invariant-sights l = first_of_target l.name l.left ≡ first_of_target l.name l.sights

abbrev pub decreases-sights : goal.decreases-sights
decreases-sights l = length l.left
