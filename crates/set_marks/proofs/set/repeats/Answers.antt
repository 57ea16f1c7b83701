use Rattle.std.proofs.Common.{◌∙◌}
use Rattle.set_marks.proofs.Asking.{repeats_end}
use Rattle.set_marks.proofs.set.repeats.Goals as goal

pub returns : goal.returns
returns c =
    c.is_empty.ensures
    ∙ repeats_end c.sights.others.now c.sights.left.now c.in_default.ensures.cases
    ∙ c.sights.invariant
