use Rattle.std.proofs.Common.{◌∙◌}
use Rattle.adjust_kernel.specs.Residuals.{target_sum}
use Rattle.adjust_kernel.specs.Tallies.{all_added}
use Rattle.adjust_kernel.proofs.TallyLaws.{added_for_target-all, first_uneven, more_even}
use Rattle.adjust_kernel.proofs.sums.first_uneven_target.Goals as goal

pub returns-then-target_sum-ne0-clause-some : goal.returns-then-target_sum-ne0-clause-some
returns-then-target_sum-ne0-clause-some g c = λ stated rs stands.
    first_uneven (target_sum stated rs) c.loop-target.target c.target_sum.result
    (c.target_sum.ensures (all_added stated rs) stands
    ∙ added_for_target-all stated rs c.loop-target.target)
    (c.loop-target.invariant stated rs stands) c.args.targets c.loop-target-test.true
    c.if-target_sum-ne0.true

pub loop-target-preserved : goal.loop-target-preserved
loop-target-preserved g c = λ stated rs stands.
    more_even (target_sum stated rs) c.loop-target.target c.target_sum.result
    (c.target_sum.ensures (all_added stated rs) stands
    ∙ added_for_target-all stated rs c.loop-target.target)
    (c.loop-target.invariant stated rs stands) (record { sfits = c.target_sum.type_inv })
    c.if-target_sum-ne0.false
