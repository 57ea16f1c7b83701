use Rattle.std.proofs.Common.{Some, sym, ap, ◌∙◌}
use Rattle.gsi_word.specs.BlockViews.{words_left}
use Rattle.gsi_word.specs.declared.words.Words.{Words}
use Rattle.set_marks.proofs.FirstWords.{first_named, named_here, named_later}
use Rattle.set_marks.proofs.reading.information.Goals as goal

pub loop-word-init : goal.loop-word-init
loop-word-init c =
    ap (λ (w : Words). first_named (words_left w)) c.into_iter-word-iterator.ensures.into_iter_gives
    ∙ ap first_named c.words-word-items.ensures

pub returns-then-index-eq-CODE_INFORMATION : goal.returns-then-index-eq-CODE_INFORMATION
returns-then-index-eq-CODE_INFORMATION c =
    ap Some c.name_in.ensures
    ∙ sym (named_here c.in-Some.word (words_left c.next.new.self)
    (sym c.index.ensures.value ∙ c.if-index-eq-CODE_INFORMATION.true))
    ∙ sym (ap first_named c.in-Some.ensures.steps) ∙ c.loop-word.invariant

pub loop-word-preserved : goal.loop-word-preserved
loop-word-preserved c =
    sym (named_later c.in-Some.word (words_left c.next.new.self)
    (λ e. c.if-index-eq-CODE_INFORMATION.false (c.index.ensures.value ∙ e)))
    ∙ sym (ap first_named c.in-Some.ensures.steps) ∙ c.loop-word.invariant

pub returns : goal.returns
returns c = sym (ap first_named c.in-None.ensures.steps.0) ∙ c.loop-word.invariant
