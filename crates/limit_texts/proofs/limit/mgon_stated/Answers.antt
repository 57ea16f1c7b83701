use Rattle.std.proofs.Common.{◌≡◌, ◌∙◌, ◌≤◌, ◌++◌, ◌*◌, ap, arith, codes, sym, true≢false}
use Rattle.std.specs.Prelude.{◌/◌}
use Rattle.limit_texts.specs.Limits.{StatesMgon, is_number}
use Rattle.limit_texts.proofs.Quotients.{is-quotient, nothing-over, same-number}
use Rattle.limit_texts.proofs.Quotients.{stated-thousandths, whole-quotient}
use Rattle.limit_texts.proofs.limit.mgon_stated.Goals as goal

pub returns-then-thousandths-unit-ne0-clause-none :
    goal.returns-then-thousandths-unit-ne0-clause-none
returns-then-thousandths-unit-ne0-clause-none c limit s =
    let text_is : c.args.text.now ≡ c.in_ok-number.number.now ++ codes "mgon" =
    c.in_ok-number.ensures in
    let whole = stated-thousandths c.args.unit c.args.text.now c.in_ok-number.number.now
    c.in_ok-thousandths.thousandths limit text_is c.in_ok-thousandths.ensures.value s in
    let none = nothing-over c.args.unit c.in_ok-thousandths.thousandths limit whole in
    absurd (c.if-thousandths-unit-ne0.true none)

pub returns-clause-stated : goal.returns-clause-stated
returns-clause-stated c = record {
  number = c.in_ok-number.number.now;
  text_is = c.in_ok-number.ensures;
  a_number = c.in_ok-thousandths.ensures.some;
  value = sym c.in_ok-thousandths.ensures.value
      ∙ whole-quotient c.args.unit c.in_ok-thousandths.thousandths c.if-thousandths-unit-ne0.false
      ∙ ap (λ n. n * c.args.unit) (sym c.in_ok-limit.ensures.some);
}

pub returns-in_err-limit-clause-none : goal.returns-in_err-limit-clause-none
returns-in_err-limit-clause-none c =
    let t = c.in_ok-thousandths.thousandths in
    rw c.from_residual-in_err-limit.ensures
    (λ limit s.
    let whole = stated-thousandths c.args.unit c.args.text.now c.in_ok-number.number.now t limit
    c.in_ok-number.ensures c.in_ok-thousandths.ensures.value s in
    let same = is-quotient c.args.unit t limit c.requires whole in
    let large : 4_294_967_296 ≤ t / c.args.unit = c.in_err-limit.ensures.none in
    omega (arith, same, large))

pub returns-in_err-number-clause-none : goal.returns-in_err-number-clause-none
returns-in_err-number-clause-none c =
    rw c.from_residual.ensures
    (λ limit (s : StatesMgon c.args.unit c.args.text.now limit).
    absurd (c.in_err-number.ensures s.number s.text_is))

pub returns-in_err-thousandths-clause-none : goal.returns-in_err-thousandths-clause-none
returns-in_err-thousandths-clause-none c =
    rw c.from_residual-in_err-thousandths.ensures
    (λ limit s.
    let same = same-number c.args.unit c.args.text.now c.in_ok-number.number.now limit
    c.in_ok-number.ensures s in
    absurd (true≢false (sym s.a_number ∙ sym (ap is_number same)
    ∙ c.in_err-thousandths.ensures.none)))
