use Rattle.std.proofs.Common.{sym, ◌+◌, ◌∙◌}
use Rattle.adjust_kernel.specs.declared.bounds.TheConstants.{MOST_SETS}
use Rattle.set_marks.proofs.FewStarts.{first_starts}
use Rattle.set_marks.proofs.division.few_starts.Goals as goal

pub returns-in_ok-few-in-Some : goal.returns-in_ok-few-in-Some
returns-in_ok-few-in-Some c = c.in_ok-few-in-Some.ensures
    ∙ first_starts (MOST_SETS + 1) c.args.sights.now c.in-Some.opening.now
    (sym c.in-Some.ensures.value)
