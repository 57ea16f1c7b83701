use Rattle.std.proofs.Common.{below_more, refl}
use Rattle.exact_adjustment.proofs.certificate.are_sets_even.Goals as goal

pub loop-set-preserved : goal.loop-set-preserved
loop-set-preserved c = below_more _ c.loop-set.set c.loop-set.invariant
    (c.if-not-is_set_even.ensures.0 refl)

pub returns-then-not-is_set_even : goal.returns-then-not-is_set_even
returns-then-not-is_set_even c = (
  λ t. absurd cc,
  λ all. c.if-not-is_set_even.ensures.1 (all c.loop-set.set c.loop-set-test.true),
)
