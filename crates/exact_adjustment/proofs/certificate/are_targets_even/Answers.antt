use Rattle.std.proofs.Common.{below_more, refl}
use Rattle.exact_adjustment.proofs.certificate.are_targets_even.Goals as goal

pub loop-target-preserved : goal.loop-target-preserved
loop-target-preserved c = below_more _ c.loop-target.target c.loop-target.invariant
    (c.if-not-is_target_even.ensures.0 refl)

pub returns-then-not-is_target_even : goal.returns-then-not-is_target_even
returns-then-not-is_target_even c = (
  λ t. absurd cc,
  λ all. c.if-not-is_target_even.ensures.1 (all c.loop-target.target c.loop-target-test.true),
)
