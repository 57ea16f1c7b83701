use Rattle.std.proofs.Common.{sym, ◌∙◌}
use Rattle.set_marks.proofs.Asking.{on_true, some_sight}
use Rattle.set_marks.proofs.Repeated.{repeated_known}
use Rattle.set_marks.proofs.division.repeats_first.Goals as goal

pub returns-then-not-is_empty : goal.returns-then-not-is_empty
returns-then-not-is_empty c = on_true c.repeats.result _ (λ e.
    repeated_known c.args.first.now c.args.set.now (sym c.repeats.ensures ∙ e)
    (some_sight c.args.set.now (sym c.is_empty.ensures ∙ c.if-not-is_empty.true)))
