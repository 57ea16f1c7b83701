use Rattle.std.proofs.Common.{inl, inr, rules}
use Rattle.command_line.proofs.subcommands.result_of.Goals as goal

pub returns-in_err-get_str-clause-none : goal.returns-in_err-get_str-clause-none
returns-in_err-get_str-clause-none c = rw c.from_residual.ensures (inl (search rules))

pub returns-in_err-result_limits_of-clause-none : goal.returns-in_err-result_limits_of-clause-none
returns-in_err-result_limits_of-clause-none c =
    rw c.from_residual-in_err-result_limits_of.ensures
    (inr c.in_err-result_limits_of.ensures.none)
