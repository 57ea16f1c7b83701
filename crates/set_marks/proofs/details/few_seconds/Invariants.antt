use Rattle.std.proofs.Common.{◌≡◌, ◌++◌, length}
use Rattle.set_marks.specs.Divisions.{seconds_of}
use Rattle.set_marks.proofs.details.few_seconds.Given as goal

abbrev pub invariant-sights : goal.invariant-sights
invariant-sights l = l.few.items ++ seconds_of l.left ≡ seconds_of l.sights

abbrev pub decreases-sights : goal.decreases-sights
decreases-sights l = length l.left
