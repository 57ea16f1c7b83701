use Rattle.std.proofs.Common.{◌≡◌, ◌||◌, Bool, List, drop, Option, Some, None, sym, ap, ◌∙◌}
use Rattle.std.specs.List.{list_any}
use Rattle.std.specs.Iterator.{YieldsFirst}
use Rattle.gsi_word.specs.Words.{GsiWord}
use Rattle.gsi_word.specs.BlockViews.{words_left}
use Rattle.gsi_word.specs.declared.words.Words.{Words}
use Rattle.set_marks.specs.Stations.{begins_line, is_two_lines}
use Rattle.set_marks.proofs.reading.has_later_beginning.Goals as goal

abbrev any_line : List GsiWord → Bool
any_line = list_any begins_line

-- After the first word the others are left.
first_gone : (old new : Words) (o : Option GsiWord) → YieldsFirst words_left old o new
    → words_left new ≡ drop 1 (words_left old)
first_gone old new None gives = gives.1 ∙ sym (ap (drop 1) gives.0)
first_gone old new (Some word) gives = sym (ap (drop 1) gives)

pub loop-word-init : goal.loop-word-init
unfolding is_two_lines
loop-word-init c =
    ap (λ (w : Words). any_line (words_left w)) c.into_iter-word-iterator.ensures.into_iter_gives
    ∙ ap any_line (first_gone c.words-words.result c.next.new.self c.next.result
    c.next.ensures.steps
    ∙ ap (drop 1) c.words-words.ensures)

pub returns-then-begins_line : goal.returns-then-begins_line
returns-then-begins_line c = sym (ap any_line c.in-Some.ensures.steps
    ∙ ap (λ (b : Bool). b || any_line (words_left c.next-in-loop-word.new.self))
    (sym c.begins_line.ensures ∙ c.if-begins_line.true)) ∙ c.loop-word.invariant

pub loop-word-preserved : goal.loop-word-preserved
loop-word-preserved c = sym (ap any_line c.in-Some.ensures.steps
    ∙ ap (λ (b : Bool). b || any_line (words_left c.next-in-loop-word.new.self))
    (sym c.begins_line.ensures ∙ c.if-begins_line.false)) ∙ c.loop-word.invariant

pub returns : goal.returns
returns c = sym (ap any_line c.in-None.ensures.steps.0) ∙ c.loop-word.invariant
