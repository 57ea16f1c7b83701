use Rattle.std.proofs.Common.{sym, ◌∙◌}
use Rattle.set_marks.proofs.Repeated.{repeated_clean}
use Rattle.set_marks.proofs.set.later_flaw.Goals as goal

pub returns-then-repeats : goal.returns-then-repeats
returns-then-repeats c =
    sym (repeated_clean c.args.first.now c.args.set.now (sym c.repeats.ensures ∙ c.if-repeats.true)
    c.requires)
