use Rattle.std.proofs.Common.{◌≤◌, ◌<◌, ◌-◌}
use Rattle.station_report.specs.Deviations.{square_below}
use Rattle.station_report.proofs.root.half_root.Given as goal

-- The root is from the one, and below the other.
abbrev pub invariant-loop-high : goal.invariant-loop-high
invariant-loop-high l = record {
  order : l.low < l.high;
  bound : l.high ≤ 400_000_001;
  low : square_below l.low ≤ l.number;
  high : l.number < square_below l.high;
}

abbrev pub decreases-loop-high : goal.decreases-loop-high
decreases-loop-high l = l.high - l.low
