use Rattle.std.proofs.Common.{◌≡◌, ◌<◌, ◌+◌, ◌-◌, ◌∷◌, ◌++◌, [], ℕ, List, Some, None, length, drop}
use Rattle.std.proofs.Common.{sym, ap, subst, ◌∙◌, arith, rules}
use Rattle.std.specs.Prelude.{slice_get}
use Rattle.std.proofs.lemmas.List.{append-nil}
use Rattle.gsi_file.specs.Parts.{parts}
use Rattle.set_marks.specs.declared.mark.BlockMark.{BlockMark}
use Rattle.set_marks.specs.declared.mark.Mark.{Mark}
use Rattle.set_marks.specs.Copies.{AreOrdered}
use Rattle.set_marks.specs.LinePlaces.{placed_by}
use Rattle.set_marks.specs.Placing.{marks_after, placed}
use Rattle.set_marks.proofs.CopyPlaces.{in_order, begin_lines}
use Rattle.set_marks.proofs.LinePlaces.{placed_is, placed_none, placed_past, placed_beyond}
use Rattle.set_marks.proofs.LinePlaces.{next_placed, first_is, none_first}
use Rattle.set_marks.proofs.placing.placed.Goals as goal
use Rattle.set_marks.proofs.placing.placed.Goals.{then-block-number-via-then-block-number}
use Rattle.set_marks.proofs.placing.placed.Goals.{
  then-block-number-via-else-block-number+then-block-number-2,
}

pub marks-init : goal.marks-init
marks-init c =
    let bytes = c.args.bytes.now in
    rw c.in_ok-found.ensures.items (ap (λ (l : List ℕ). placed_by bytes 0 l c.args.marks.now)
    c.requires.begins ∙ sym (placed_is bytes 0 0 c.args.marks.now (parts bytes)))

pub marks-preserved : goal.marks-preserved
marks-preserved c =
    let bytes = c.args.bytes.now in
    let m = c.in-Some.mark.now in
    let block = m.block in
    let number = c.marks.number in
    let bs = c.marks.rest.now in
    let k = block - number - 1 in
    let past = c.if-block-number.false in
    let among = c.if-block-number-2.false in
    let at_first : slice_get c.marks.left.now 0 ≡ Some m = search rules in
    let split = first_is c.marks.left.now m at_first in
    let ms = drop 1 c.marks.left.now in
    let inside : k < length bs = omega (arith, past, among) in
    let step : k + 1 ≡ block - number = omega (arith, past) in
    let rest : c.later-rest.result.now ≡ drop (k + 1) bs =
    c.later-rest.ensures ∙ ap (λ (n : ℕ). drop n bs) (sym step) in
    rw (c.in_ok-left.ensures.rest, rest) (subst (λ (l : List BlockMark).
    c.place_block.new.placed.items ++ placed_by bytes block (drop (k + 1) bs)
    (marks_after block l) ≡ placed bytes c.args.marks.now) (sym split)
    (next_placed bytes number k block bs m ms c.marks.found.items
    c.place_block.new.placed.items (placed bytes c.args.marks.now) (omega (arith, past))
    (search rules) inside (rw split at c.in_ok-left.ensures.value)
    (rw split at c.marks.invariant)))

pub returns-then-block-number-clause-value : goal.returns-then-block-number-clause-value
returns-then-block-number-clause-value c =
    let bytes = c.args.bytes.now in
    let m = c.in-Some.mark.now in
    let number = c.marks.number in
    let bs = c.marks.rest.now in
    let found = c.marks.found.items in
    let ms = drop 1 c.marks.left.now in
    let at_first : slice_get c.marks.left.now 0 ≡ Some m = search rules in
    let split = first_is c.marks.left.now m at_first in
    let none : placed_by bytes number bs (m ∷ ms) ≡ [] =
    elim c.then-block-number.branch [
      | then-block-number-via-then-block-number w ↦
          placed_past bytes number bs m ms w.if-block-number.true
      | then-block-number-via-else-block-number+then-block-number-2 w ↦
          let past = w.if-block-number.false in
          let beyond = w.if-block-number-2.true in
          placed_beyond bytes number bs m ms (omega (arith, past, beyond))
    ] in
    sym (append-nil found) ∙ ap (λ (l : List Mark). found ++ l) (sym none)
    ∙ ap (λ (l : List BlockMark). found ++ placed_by bytes number bs l) (sym split)
    ∙ c.marks.invariant

pub returns-then-block-number-clause-ordered : goal.returns-then-block-number-clause-ordered
returns-then-block-number-clause-ordered c =
    subst (λ (ms : List Mark). AreOrdered 0 (length c.args.bytes.now) ms)
    (sym (returns-then-block-number-clause-value c))
    (in_order c.args.bytes.now c.args.marks.now c.requires.room)

pub returns-then-block-number-clause-begin : goal.returns-then-block-number-clause-begin
returns-then-block-number-clause-begin c =
    rw (returns-then-block-number-clause-value c)
    (begin_lines c.args.bytes.now c.args.marks.now c.requires.room)

pub returns-clause-value : goal.returns-clause-value
returns-clause-value c =
    let bytes = c.args.bytes.now in
    let found = c.marks.found.items in
    let no_first : slice_get c.marks.left.now 0 ≡ None = search rules in
    let none = none_first c.marks.left.now no_first in
    sym (append-nil found) ∙ ap (λ (l : List Mark). found ++ l)
    (sym (placed_none bytes c.marks.number c.marks.rest.now))
    ∙ ap (λ (l : List BlockMark). found ++ placed_by bytes c.marks.number c.marks.rest.now l)
    (sym none) ∙ c.marks.invariant

pub returns-clause-ordered : goal.returns-clause-ordered
returns-clause-ordered c =
    subst (λ (ms : List Mark). AreOrdered 0 (length c.args.bytes.now) ms)
    (sym (returns-clause-value c))
    (in_order c.args.bytes.now c.args.marks.now c.requires.room)

pub returns-clause-begin : goal.returns-clause-begin
returns-clause-begin c =
    rw (returns-clause-value c)
    (begin_lines c.args.bytes.now c.args.marks.now c.requires.room)
