use Rattle.std.proofs.Common.{◌≡◌, ◌+◌, length}
use Rattle.set_marks.specs.Divisions.{again_from}
use Rattle.set_marks.proofs.set.again_in.Given as goal

abbrev pub invariant-sights : goal.invariant-sights
invariant-sights l = record {
  found : again_from l.set l.at l.left ≡ again_from l.set 0 l.set;
  place : l.at + length l.left ≡ length l.set;
}

abbrev pub decreases-sights : goal.decreases-sights
decreases-sights l = length l.left
