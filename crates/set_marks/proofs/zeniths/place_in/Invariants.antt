use Rattle.std.proofs.Common.{◌≡◌, ◌+◌, length}
use Rattle.set_marks.specs.Ranging.{place_in}
use Rattle.set_marks.proofs.zeniths.place_in.Given as goal

abbrev pub invariant-places : goal.invariant-places
invariant-places l = record {
  found : l.at + place_in l.name l.left ≡ place_in l.name l.ranges;
  place : l.at + length l.left ≡ length l.ranges;
}

abbrev pub decreases-places : goal.decreases-places
decreases-places l = length l.left
