use Rattle.std.proofs.Common.{◌≡◌, length}
use Rattle.set_marks.specs.Ranging.{IsUnique, targets_in}
use Rattle.set_marks.specs.Zeniths.{ranges_with, ranges_of}
use Rattle.set_marks.proofs.zeniths.ranges_of_many.Given as goal

abbrev pub invariant-sights : goal.invariant-sights
invariant-sights l = record {
  found : ranges_with l.ranges.items l.left ≡ ranges_of l.sights;
  unique : IsUnique l.ranges.items;
  names : l.names ≡ targets_in l.ranges.items;
}

abbrev pub decreases-sights : goal.decreases-sights
decreases-sights l = length l.left
