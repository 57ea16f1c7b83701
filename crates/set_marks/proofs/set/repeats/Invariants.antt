use Rattle.std.proofs.Common.{◌≡◌, length}
use Rattle.set_marks.specs.Searching.{repeats}
use Rattle.set_marks.proofs.set.repeats.Given as goal

abbrev pub invariant-sights : goal.invariant-sights
invariant-sights l = repeats l.others l.left ≡ repeats l.first l.set

abbrev pub decreases-sights : goal.decreases-sights
decreases-sights l = length l.left
