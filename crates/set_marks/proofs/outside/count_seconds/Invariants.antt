use Rattle.std.proofs.Common.{◌≡◌, ◌+◌, ◌≤◌, length}
use Rattle.set_marks.specs.Divisions.{seconds_of}
use Rattle.set_marks.proofs.outside.count_seconds.Given as goal

abbrev pub invariant-sights : goal.invariant-sights
invariant-sights l = record {
  found : l.count + length (seconds_of l.left) ≡ length (seconds_of l.sights);
  few : l.count + length l.left ≤ length l.sights;
}

abbrev pub decreases-sights : goal.decreases-sights
decreases-sights l = length l.left
