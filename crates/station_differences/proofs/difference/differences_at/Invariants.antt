use Rattle.std.proofs.Common.{◌≡◌, ℕ, ◌<◌, length, get_or, pos}
use Rattle.station_differences.specs.Angles.{angle_of}
use Rattle.station_differences.specs.Differences.{IsFromMiddle}
use Rattle.station_differences.proofs.difference.differences_at.Given as goal

-- The differences so far.
abbrev pub invariant-loop-place : goal.invariant-loop-place
invariant-loop-place l = record {
  count : length l.differences.items ≡ l.place;
  each : (t : ℕ) → t < length l.differences.items
      → IsFromMiddle l.denominator l.circle (angle_of l.angles.items) l.arc.start l.arc.spread t
      (get_or l.differences.items t (pos 0));
}
