use Rattle.std.proofs.Common.{false, refl}
use Rattle.std.proofs.lemmas.Bool.{and_right}
use Rattle.direction_table.proofs.decimal.read_decimal.Goals as goal

pub returns-in_err-number-clause-none : goal.returns-in_err-number-clause-none
returns-in_err-number-clause-none c =
    rw (
      c.from_residual.ensures,
      ← c.mark_of.ensures.value,
      ← c.split_at.ensures.front,
      c.in_err-number.ensures.none,
    ) (and_right _ false refl)

pub returns-in_err-fraction-clause-none : goal.returns-in_err-fraction-clause-none
returns-in_err-fraction-clause-none c =
    rw (
      c.from_residual-in_err-fraction.ensures,
      ← c.mark_of.ensures.value,
      ← c.split_at.ensures.back,
      ← c.after_first-decimals.ensures.value,
      c.in_err-fraction.ensures.none,
    ) (and_right _ _ (and_right _ false refl))

pub returns-clause-value : goal.returns-clause-value
returns-clause-value c =
    rw (
      ← c.mark_of.ensures.value,
      ← c.split_at.ensures.front,
      ← c.split_at.ensures.back,
      ← c.after_first-decimals.ensures.value,
      ← c.in_ok-number.ensures.value,
      ← c.in_ok-fraction.ensures.value,
      ← c.pow.ensures,
    ) refl
