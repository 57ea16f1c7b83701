use Rattle.std.proofs.Common.{◌≡◌, ℕ, ◌<◌, length, get_or, pos}
use Rattle.directions_apart.specs.Apart.{circle_of, difference, stated_by}
use Rattle.directions_apart.specs.Arcs.{IsWayRound}
use Rattle.exact_adjustment.specs.Adjustments.{choice_by}
use Rattle.station_differences.proofs.angles.angles.Given as goal

-- The angles of the targets so far.
abbrev pub invariant-loop-place : goal.invariant-loop-place
invariant-loop-place l = record {
  count : length l.angles.items ≡ l.place-index;
  each : (i : ℕ) → i < length l.angles.items
      → IsWayRound (circle_of (choice_by l.adjustment)) (pos 0)
      (difference (choice_by l.adjustment) (stated_by l.stated) (get_or l.places i 0))
      (get_or l.angles.items i 0);
}
