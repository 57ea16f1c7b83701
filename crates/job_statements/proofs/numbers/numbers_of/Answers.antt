use Rattle.std.proofs.Common.{◌≡◌, IfErr, map, rules, subst}
use Rattle.std.specs.Prelude.{Result, Err}
use Rattle.job_statements.specs.declared.numbers.Unstated.{Unstated}
use Rattle.job_statements.specs.declared.stated.StatedNumber.{StatedNumber}
use Rattle.job_statements.specs.WrongTexts.{IsUnstated}
use Rattle.job_statements.proofs.NumberLaws.{more_of_texts, wrong_of_texts}
use Rattle.job_statements.proofs.numbers.numbers_of.Goals as goal

pub loop-text-preserved : goal.loop-text-preserved
loop-text-preserved c =
    more_of_texts c.args.largest c.args.texts.now c.loop-text.text-index _ c.loop-text.stated
    c.in_ok-stated.stated c.loop-text-test.true c.loop-text.invariant c.in_ok-stated.ensures.added

pub returns-in_err-stated-clause-why : goal.returns-in_err-stated-clause-why
returns-in_err-stated-clause-why c =
    let same : Err c.in_err-stated.field-0.0 ≡ c.from_residual.result = search rules in
    subst (λ (r : Result StatedNumber Unstated). IfErr r (IsUnstated c.args.largest
    (map (λ text. text.now) c.args.texts.now))) same
    (wrong_of_texts c.args.largest c.args.texts.now c.loop-text.text-index _ c.loop-text.stated
    c.in_err-stated.field-0.0 c.loop-text-test.true c.loop-text.invariant
    c.in_err-stated.ensures.why)
