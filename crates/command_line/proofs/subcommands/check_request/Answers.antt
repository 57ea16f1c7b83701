use Rattle.std.proofs.Common.{inl, inr, refl, rules}
use Rattle.command_line.proofs.subcommands.check_request.Goals as goal

pub returns-in_err-get_str-clause-none : goal.returns-in_err-get_str-clause-none
returns-in_err-get_str-clause-none c = rw c.from_residual.ensures (inl (search rules))

pub returns-in_err-get_str-2-clause-none : goal.returns-in_err-get_str-2-clause-none
returns-in_err-get_str-2-clause-none c =
    rw c.from_residual-in_err-get_str-2.ensures (inr (inl (search rules)))

pub returns-in_err-limits_of-clause-none : goal.returns-in_err-limits_of-clause-none
returns-in_err-limits_of-clause-none c =
    rw c.from_residual-in_err-limits_of.ensures (inr (inr (inl c.in_err-limits_of.ensures.none)))

pub returns-in_err-residual_of-clause-none : goal.returns-in_err-residual_of-clause-none
returns-in_err-residual_of-clause-none c =
    rw c.from_residual-in_err-residual_of.ensures
    (inr (inr (inr c.in_err-residual_of.ensures.none)))

pub returns-clause-asked : goal.returns-clause-asked
returns-clause-asked c = (
  refl,
  record {
    field_file = search rules;
    of_sheet = search rules;
    of_limits = c.in_ok-limits_of.ensures.stated;
    of_residual = c.in_ok-residual_of.ensures.stated;
    of_digests = c.digests_of.ensures;
  },
)
