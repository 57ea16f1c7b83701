use Rattle.std.proofs.Common.{rules, ◌<◌, ◌∙◌, ◌*◌, length, ap, arith, get_or-set_other}
use Rattle.std.proofs.Math.Nat.{mul-le-mul_right}
use Rattle.wide_number.specs.Limbs.{limb_weight, value_below}
use Rattle.wide_number.proofs.LimbLaws.{limb_weight-suc, value_below-set, value_below-suc}
use Rattle.wide_number.proofs.limbs.subtract.Goals as goal

pub loop-i-init : goal.loop-i-init
unfolding value_below limb_weight
loop-i-init c = search rules

pub loop-i-preserved : goal.loop-i-preserved
loop-i-preserved c =
    let l = c.loop-i in
    let within : l.i < length l.limbs = search rules in
    let one = c.lowered-limb.ensures in
    record {
      borrowed = one.borrow;
      value = rw (
        value_below-set l.limbs l.i _ within,
        value_below-suc c.args.limbs.now l.i,
        value_below-suc c.args.by.now l.i,
        limb_weight-suc,
        ← l.invariant.others l.i (omega arith),
      ) (omega (arith, l.invariant.value, ap (λ t. t * limb_weight l.i) one.value));
      below = rw (value_below-set l.limbs l.i _ within, limb_weight-suc)
          (omega (arith, l.invariant.below, mul-le-mul_right (limb_weight l.i) one.limb));
      others = λ k h. get_or-set_other l.limbs l.i k _ 0 (λ e. omega arith)
          ∙ l.invariant.others k (omega arith);
    }
