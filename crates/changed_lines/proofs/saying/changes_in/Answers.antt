use Rattle.std.proofs.Common.{rules, ◌≡◌, ℕ, ◌+◌, ◌<◌, List, length, sym, ap, subst, ◌∙◌, Err}
use Rattle.changed_lines.specs.declared.saying.Unsaid.TheVariants.{Wrong}
use Rattle.changed_lines.proofs.SaidChanges.{Reads, reads_on, reads_last, says_nothing}
use Rattle.changed_lines.proofs.SaidChanges.{last_says_nothing, take_rest, none_of}
use Rattle.changed_lines.proofs.saying.changes_in.Goals as goal

pub pieces-preserved : goal.pieces-preserved
pieces-preserved c =
    subst (λ (bs : List ℕ). Reads c.args.text.now c.add.new.changes.items bs)
    (sym (take_rest (c.in-Some.at + 1) c.pieces.rest.now))
    (reads_on c.args.text.now c.pieces.changes.items c.add.new.changes.items c.pieces.rest.now
    c.in-Some.at c.pieces.invariant (search rules) c.in_ok-add.ensures.added)

pub returns-in_err-add-clause-wrong : goal.returns-in_err-add-clause-wrong
returns-in_err-add-clause-wrong c = λ wrong.
    let same : Err c.in_err-add.field-0.0 ≡ c.from_residual.result = search rules in
    let both = same ∙ wrong in
    let kind : c.in_err-add.field-0.0 ≡ Wrong = cc in
    let some : 0 < length c.args.text.now = search rules in
    says_nothing c.args.text.now c.pieces.changes.items c.pieces.rest.now c.in-Some.at some
    c.pieces.invariant (search rules) (c.in_err-add.ensures.wrong (ap Err kind))

pub returns-in_err-add-2-clause-wrong : goal.returns-in_err-add-2-clause-wrong
returns-in_err-add-2-clause-wrong c = λ wrong.
    let same : Err c.in_err-add-2.field-0.0 ≡ c.from_residual-in_err-add-2.result =
    search rules in
    let both = same ∙ wrong in
    let kind : c.in_err-add-2.field-0.0 ≡ Wrong = cc in
    let some : 0 < length c.args.text.now = search rules in
    last_says_nothing c.args.text.now c.pieces.changes.items c.pieces.rest.now some
    c.pieces.invariant (sym c.first_of.ensures ∙ none_of c.first_of.result c.in_default.not-Some)
    (c.in_err-add-2.ensures.wrong (ap Err kind))

pub returns-clause-say : goal.returns-clause-say
returns-clause-say c =
    let some : 0 < length c.args.text.now = search rules in
    reads_last c.args.text.now c.pieces.changes.items c.add-2.new.changes.items
    c.pieces.rest.now some c.pieces.invariant
    (sym c.first_of.ensures ∙ none_of c.first_of.result c.in_default.not-Some)
    c.in_ok-add-2.ensures.added
