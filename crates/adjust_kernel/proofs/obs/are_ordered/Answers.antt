use Rattle.std.proofs.Common.{refl}
use Rattle.adjust_kernel.proofs.ObsLaws.{ordered_more}
use Rattle.adjust_kernel.proofs.obs.are_ordered.Goals as goal

pub loop-place-preserved : goal.loop-place-preserved
loop-place-preserved c =
    ordered_more c.args.obs.now c.loop-place.place _ c.loop-place.auto.place c.loop-place-test.true
    c.loop-place.invariant (c.if-not-is_before.ensures.0 refl)
