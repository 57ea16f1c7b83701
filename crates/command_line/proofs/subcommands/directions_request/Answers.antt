use Rattle.std.proofs.Common.{inl, inr, refl, rules}
use Rattle.command_line.proofs.subcommands.directions_request.Goals as goal

pub returns-clause-asked : goal.returns-clause-asked
returns-clause-asked c = (
  search rules,
  search rules,
  (refl, search rules, c.row_form_of-form.ensures),
  search rules,
)

pub returns-then-has_flag-clause-asked : goal.returns-then-has_flag-clause-asked
returns-then-has_flag-clause-asked c =
    (search rules, (refl, search rules, c.row_form_of-form.ensures), search rules)

pub returns-in_default-result_of-clause-none : goal.returns-in_default-result_of-clause-none
returns-in_default-result_of-clause-none c =
    inl (inl (search rules, c.in_default-result_of.ensures.none))

pub returns-in_default-clause-none : goal.returns-in_default-clause-none
returns-in_default-clause-none c = inl (inr (search rules, c.in_default.ensures.none))

pub returns-in_err-decimals-clause-none : goal.returns-in_err-decimals-clause-none
returns-in_err-decimals-clause-none c =
    rw c.from_residual.ensures (inr c.in_err-decimals.ensures.none)
