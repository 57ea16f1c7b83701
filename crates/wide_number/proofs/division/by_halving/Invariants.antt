use Rattle.std.proofs.Common.{◌-◌, ◌*◌, ◌≤◌, ◌<◌}
use Rattle.wide_number.proofs.division.by_halving.Given as goal

abbrev pub invariant-loop-high : goal.invariant-loop-high
invariant-loop-high l = record {
  order : l.low < l.high;
  bound : l.high ≤ l.bound;
  low : l.unit * l.low ≤ l.number;
  high : l.number < l.unit * l.high;
}

abbrev pub decreases-loop-high : goal.decreases-loop-high
decreases-loop-high l = l.high - l.low
