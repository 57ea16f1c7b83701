use Rattle.std.proofs.Common.{◌≡◌, ◌<◌, ℕ, length, get_or}
use Rattle.station_report.specs.Factors.{IsWhole}
use Rattle.station_report.proofs.squares.wholes_of.Given as goal

-- The whole half units of the angles so far.
abbrev pub invariant-loop-place : goal.invariant-loop-place
invariant-loop-place l = record {
  count : length l.wholes.items ≡ l.place;
  each : (i : ℕ) → i < length l.wholes.items
      → IsWhole l.denominator (get_or l.angles i 0) (get_or l.wholes.items i 0);
}
