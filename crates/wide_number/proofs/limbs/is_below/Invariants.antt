use Rattle.std.proofs.Common.{◌≡◌, ◌+◌, ◌≤◌}
use Rattle.wide_number.specs.Limbs.{value_below}
use Rattle.wide_number.proofs.limbs.is_below.Given as goal

abbrev pub invariant-loop-i : goal.invariant-loop-i
invariant-loop-i l = record {
  within : l.i ≤ 13;
  value : value_below l.a 13 + value_below l.b l.i ≡ value_below l.b 13 + value_below l.a l.i;
}

abbrev pub decreases-loop-i : goal.decreases-loop-i
decreases-loop-i l = l.i
