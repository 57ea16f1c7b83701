use Rattle.std.proofs.Common.{◌≡◌, IfErr, List, None, Some, refl, rules, subst}
use Rattle.std.specs.Prelude.{Result, Err}
use Rattle.job_statements.proofs.NumberLaws.{cut_at_last, no_equals, unwritten_fault}
use Rattle.job_statements.specs.StatedNumbers.{OfStation}
use Rattle.job_statements.specs.WrongTexts.{IsFaultAfter}
use Rattle.job_statements.specs.declared.numbers.CountFault.{CountFault}
use Rattle.job_statements.proofs.numbers.number_in.Goals as goal

pub returns-in_err-number-clause-fault : goal.returns-in_err-number-clause-fault
returns-in_err-number-clause-fault c =
    let same : Err c.in_err-number.field-0.0 ≡ c.from_residual.result = search rules in
    subst (λ (r : Result OfStation CountFault). IfErr r (λ why. (numbers : List OfStation)
    → IsFaultAfter c.args.largest numbers c.args.text.now why)) same
    (unwritten_fault c.args.largest c.args.text.now None c.args.text.now _
    (no_equals _ c.in_default.ensures.cases, refl) c.in_err-number.ensures.fault)

pub returns-in_default-clause-stated : goal.returns-in_default-clause-stated
returns-in_default-clause-stated c = record {
  before = None;
  digits = c.args.text.now;
  parts = (no_equals _ c.in_default.ensures.cases, refl);
  named = tt;
  of_station = refl;
  number = c.in_ok-number.ensures.writes;
}

pub returns-in_default-new-clause-fault : goal.returns-in_default-new-clause-fault
returns-in_default-new-clause-fault c =
    λ numbers. (
      c.in-Some.before.now,
      c.in-Some.digits.now,
      cut_at_last _ _ _ c.in-Some.ensures.cases,
      search rules,
    )

pub returns-in_err-number-2-clause-fault : goal.returns-in_err-number-2-clause-fault
returns-in_err-number-2-clause-fault c =
    let same : Err c.in_err-number-2.field-0.0 ≡ c.from_residual-in_err-number-2.result =
    search rules in
    subst (λ (r : Result OfStation CountFault). IfErr r (λ why. (numbers : List OfStation)
    → IsFaultAfter c.args.largest numbers c.args.text.now why)) same
    (unwritten_fault c.args.largest c.args.text.now (Some c.in-Some.before.now)
    c.in-Some.digits.now _ (cut_at_last _ _ _ c.in-Some.ensures.cases)
    c.in_err-number-2.ensures.fault)

pub returns-clause-stated : goal.returns-clause-stated
returns-clause-stated c = record {
  before = Some c.in-Some.before.now;
  digits = c.in-Some.digits.now;
  parts = cut_at_last _ _ _ c.in-Some.ensures.cases;
  named = search rules;
  of_station = search rules;
  number = c.in_ok-number-2.ensures.writes;
}
