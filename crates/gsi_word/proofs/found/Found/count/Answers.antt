use Rattle.std.proofs.Common.{sym, ap, ◌∙◌}
use Rattle.gsi_word.specs.declared.found.Found.TheVariants.{One}
use Rattle.gsi_word.proofs.FoundLaws.{found_first, found_further, found_other}
use Rattle.gsi_word.proofs.found.Found.count.Goals as goal

pub returns-in-Absent : goal.returns-in-Absent
returns-in-Absent c words i none at =
    ap One c.word.view_is ∙ found_first c.args.index words i c.args.word.now (sym c.in-Absent.is
    ∙ none) at (sym c.index.ensures.value ∙ c.if-index.true)

pub returns-in_default : goal.returns-in_default
returns-in_default c words i some at =
    found_further c.args.index words i c.args.word.now
    (λ none. c.in_default.not-Absent (some ∙ none)) at (sym c.index.ensures.value
    ∙ c.if-index.true)

pub returns-else-index : goal.returns-else-index
returns-else-index c words i so_far at =
    so_far ∙ found_other c.args.index words i
    c.args.word.now at (λ e. c.if-index.false (c.index.ensures.value ∙ e))
