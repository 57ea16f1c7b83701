use Rattle.std.proofs.Common.{◌≡◌, ℕ, ◌+◌, ◌*◌, ◌≤◌, ◌<◌, get_or}
use Rattle.wide_number.specs.Limbs.{limb_weight, value_below}
use Rattle.wide_number.proofs.limbs.add_product.Given as goal

abbrev pub invariant-loop-i : goal.invariant-loop-i
invariant-loop-i l = record {
  value : value_below l.limbs l.i + l.carry * limb_weight l.i
      ≡ value_below l.fn.limbs l.i + value_below l.by l.i * l.factor;
  below : value_below l.limbs l.i < limb_weight l.i;
  others : (k : ℕ) → l.i ≤ k → get_or l.limbs k 0 ≡ get_or l.fn.limbs k 0;
}
