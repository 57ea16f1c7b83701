use Rattle.std.proofs.Common.{inl, inr, rules}
use Rattle.command_line.proofs.subcommands.result_limits_of.Goals as goal

pub returns-in_err-limits_of-clause-none : goal.returns-in_err-limits_of-clause-none
returns-in_err-limits_of-clause-none c =
    rw c.from_residual.ensures (inl c.in_err-limits_of.ensures.none)

pub returns-in_err-residual-clause-none : goal.returns-in_err-residual-clause-none
returns-in_err-residual-clause-none c =
    rw c.from_residual-in_err-residual.ensures (inr c.in_err-residual.ensures.none)

pub returns-in-Some-clause-held : goal.returns-in-Some-clause-held
returns-in-Some-clause-held c =
    record { of_faces = search rules; of_residuals = inl (search rules) }

pub returns-in-None-clause-held : goal.returns-in-None-clause-held
returns-in-None-clause-held c =
    record { of_faces = search rules; of_residuals = inr (search rules, search rules) }
