use Rattle.std.proofs.Common.{◌≡◌, ◌-◌, ◌<◌, ◌≤◌, ℕ, false, length}
use Rattle.set_marks.specs.Ways.{is_division}
use Rattle.set_marks.proofs.ways.leading_of.Given as goal

abbrev pub invariant-tries : goal.invariant-tries
invariant-tries l = record {
  kept : l.known ≡ l.fn.known;
  none : (k : ℕ) → k < l.leading → is_division l.ending l.sights k ≡ false;
  few : l.leading ≤ length l.rest;
}

abbrev pub decreases-tries : goal.decreases-tries
decreases-tries l = length l.rest - l.leading
