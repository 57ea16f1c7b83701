use Rattle.std.proofs.Common.{◌≡◌, IfErr, map, rules, subst}
use Rattle.std.specs.Prelude.{Err}
use Rattle.report_notes.specs.Stated.{AreUnnoted}
use Rattle.report_notes.proofs.Stating.{more_texts, wrong_of_texts}
use Rattle.report_notes.proofs.stated.notes_of.Goals as goal

pub loop-text-preserved : goal.loop-text-preserved
loop-text-preserved c =
    more_texts c.args.language c.args.texts.now c.loop-text.text-index _ c.loop-text.notes.items
    c.add.new.notes.items c.loop-text-test.true c.loop-text.invariant c.in_ok-add.ensures.added

pub returns-in_err-add-clause-why : goal.returns-in_err-add-clause-why
returns-in_err-add-clause-why c =
    let same : Err c.in_err-add.field-0.0 ≡ c.from_residual.result = search rules in
    subst (λ r. IfErr r (AreUnnoted c.args.language (map (λ text. text.now) c.args.texts.now))) same
    (wrong_of_texts c.args.language c.args.texts.now c.loop-text.text-index _
    c.loop-text.notes.items c.in_err-add.field-0.0 c.loop-text-test.true c.loop-text.invariant
    c.in_err-add.ensures.why)
