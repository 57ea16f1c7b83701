use Rattle.std.proofs.Common.{◌∙◌}
use Rattle.adjust_kernel.specs.Residuals.{set_sum}
use Rattle.adjust_kernel.specs.Tallies.{all_added}
use Rattle.adjust_kernel.proofs.TallyLaws.{added_for_set-all, first_uneven, more_even}
use Rattle.adjust_kernel.proofs.sums.first_uneven_set.Goals as goal

pub returns-then-set_sum-ne0-clause-some : goal.returns-then-set_sum-ne0-clause-some
returns-then-set_sum-ne0-clause-some g c = λ stated rs stands.
    first_uneven (set_sum stated rs) c.loop-set.set c.set_sum.result
    (c.set_sum.ensures (all_added stated rs) stands
    ∙ added_for_set-all stated rs c.loop-set.set)
    (c.loop-set.invariant stated rs stands) c.args.sets c.loop-set-test.true
    c.if-set_sum-ne0.true

pub loop-set-preserved : goal.loop-set-preserved
loop-set-preserved g c = λ stated rs stands.
    more_even (set_sum stated rs) c.loop-set.set c.set_sum.result
    (c.set_sum.ensures (all_added stated rs) stands
    ∙ added_for_set-all stated rs c.loop-set.set)
    (c.loop-set.invariant stated rs stands) (record { sfits = c.set_sum.type_inv })
    c.if-set_sum-ne0.false
