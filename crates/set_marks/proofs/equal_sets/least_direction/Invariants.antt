use Rattle.std.proofs.Common.{◌≡◌, length}
use Rattle.set_marks.specs.Sections.{least_direction, least_with}
use Rattle.set_marks.proofs.equal_sets.least_direction.Given as goal

abbrev pub invariant-sights : goal.invariant-sights
invariant-sights l = least_with l.least l.left ≡ least_direction l.sights

abbrev pub decreases-sights : goal.decreases-sights
decreases-sights l = length l.left
