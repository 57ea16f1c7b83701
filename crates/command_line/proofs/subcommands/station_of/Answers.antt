use Rattle.std.proofs.Common.{inl, inr, rules}
use Rattle.command_line.proofs.subcommands.station_of.Goals as goal

pub returns-in_err-gsi-clause-none : goal.returns-in_err-gsi-clause-none
returns-in_err-gsi-clause-none c = rw c.from_residual.ensures (inl (search rules))

pub returns-in_err-limits_of-clause-none : goal.returns-in_err-limits_of-clause-none
returns-in_err-limits_of-clause-none c =
    rw c.from_residual-in_err-limits_of.ensures (inr c.in_err-limits_of.ensures.none)
