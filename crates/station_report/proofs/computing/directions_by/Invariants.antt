use Rattle.std.proofs.Common.{◌≡◌, ℕ, ◌<◌, length, get_or}
use Rattle.exact_adjustment.specs.Adjustments.{choice_by}
use Rattle.directions_apart.specs.Rounding.{IsRounded}
use Rattle.station_report.proofs.computing.directions_by.Given as goal

-- The directions of the targets so far.
abbrev pub invariant-loop-target : goal.invariant-loop-target
invariant-loop-target l = record {
  count : length l.directions.items ≡ l.target;
  each : (t : ℕ) → t < length l.directions.items
      → IsRounded (choice_by l.adjustment) t 1_000 (get_or l.directions.items t 0);
}
