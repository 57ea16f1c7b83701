use Rattle.std.proofs.Common.{sym, ◌∙◌}
use Rattle.set_marks.proofs.Asking.{on_true}
use Rattle.set_marks.proofs.RangePlaces.{stands_at, there}
use Rattle.set_marks.proofs.zeniths.is_at.Goals as goal

pub returns-in-Some-clause-place : goal.returns-in-Some-clause-place
returns-in-Some-clause-place c = on_true c.is_same.result _
    (λ e. stands_at c.args.name.now c.args.place c.args.ranges.now c.in-Some.range.now
    c.requires (sym c.in-Some.ensures) (sym c.is_same.ensures.value ∙ e))

pub returns-in-Some-clause-known : goal.returns-in-Some-clause-known
returns-in-Some-clause-known c = on_true c.is_same.result _
    (λ e. there c.args.ranges.now c.args.place c.in-Some.range.now c.args.name.now
    (sym c.in-Some.ensures) (sym c.is_same.ensures.value ∙ e))
