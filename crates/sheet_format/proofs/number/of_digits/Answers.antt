use Rattle.std.proofs.Common.{arith, sym}
use Rattle.sheet_format.proofs.ShortNumbers.{bound, step}
use Rattle.sheet_format.proofs.number.of_digits.Goals as goal

pub overflow_mul-value : goal.overflow_mul-value
overflow_mul-value c =
    let s = step c.args.digits.now c.loop-digit.digit-index c.loop-digit.invariant.1
    (sym c.if-not-is_ascii_digit.ensures.value) c.requires c.loop-digit-test.true in
    omega (arith, s.room, c.loop-digit.invariant.0)

pub overflow_add-value : goal.overflow_add-value
overflow_add-value c =
    let s = step c.args.digits.now c.loop-digit.digit-index c.loop-digit.invariant.1
    (sym c.if-not-is_ascii_digit.ensures.value) c.requires c.loop-digit-test.true in
    omega (arith, s.room, s.digit, c.from.ensures, c.loop-digit.invariant.0)

pub loop-digit-preserved : goal.loop-digit-preserved
loop-digit-preserved c =
    let s = step c.args.digits.now c.loop-digit.digit-index c.loop-digit.invariant.1
    (sym c.if-not-is_ascii_digit.ensures.value) c.requires c.loop-digit-test.true in
    (omega (arith, s.more, c.from.ensures, c.loop-digit.invariant.0), s.digits)

pub returns-clause-bound : goal.returns-clause-bound
returns-clause-bound c =
    let b = bound c.args.digits.now c.loop-digit.digit-index c.loop-digit.invariant.1 c.requires
    c.loop-digit.auto.digit-index-end in
    omega (arith, b, c.loop-digit.invariant.0)
