use Rattle.std.proofs.Common.{◌≡◌, ◌+◌, ◌≤◌, length, take, drop}
use Rattle.set_marks.specs.Divisions.{targets_of}
use Rattle.set_marks.proofs.known.count_of_few.Given as goal

abbrev pub invariant-sights : goal.invariant-sights
invariant-sights l = record {
  count_is : l.count ≡ length (targets_of (take l.at l.sights));
  rest : l.left ≡ drop l.at l.sights;
  place : l.at + length l.left ≡ length l.sights;
  few : l.count ≤ l.at;
}

abbrev pub decreases-sights : goal.decreases-sights
decreases-sights l = length l.left
