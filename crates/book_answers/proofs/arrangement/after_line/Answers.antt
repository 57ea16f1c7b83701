use Rattle.std.proofs.Common.{◌+◌, ◌-◌, ◌<◌, ◌∙◌, arith, drop, length, rules, sym}
use Rattle.std.proofs.lemmas.List.{drop_all, length-drop, take_all}
use Rattle.book_answers.specs.Together.{after_line}
use Rattle.book_answers.proofs.TextLaws.{ends_here, ends_later}
use Rattle.book_answers.proofs.arrangement.after_line.Goals as goal

pub returns-then-text-place-eq10 : goal.returns-then-text-place-eq10
returns-then-text-place-eq10 c =
    let text = c.args.text.now in
    let next = c.bytes.place + 1 in
    let inside : c.bytes.place < length text = search rules in
    take_all (length text - next) (drop next text) (omega (arith, length-drop next text))
    ∙ sym (ends_here text c.bytes.place inside (search rules)) ∙ c.bytes.invariant

pub bytes-preserved : goal.bytes-preserved
bytes-preserved c =
    sym (ends_later c.args.text.now c.bytes.place (search rules) (search rules))
    ∙ c.bytes.invariant

pub returns : goal.returns
unfolding after_line
returns c =
    let none = drop_all c.bytes.place c.args.text.now (search rules) in
    rw none at c.bytes.invariant
