use Rattle.std.proofs.Common.{◌≡◌, ◌-◌, ◌<◌, ◌≤◌, ℕ, false, length, take, drop}
use Rattle.set_marks.specs.Searching.{may_divide}
use Rattle.set_marks.proofs.ways.is_open_somewhere.Given as goal

abbrev pub invariant-tries : goal.invariant-tries
invariant-tries l = record {
  closed : (k : ℕ) → k < l.leading → may_divide l.ending (take k l.rest) (drop k l.rest) ≡ false;
  few : l.leading ≤ length l.rest;
}

abbrev pub decreases-tries : goal.decreases-tries
decreases-tries l = length l.rest - l.leading
