use Rattle.std.proofs.Common.{inl, inr, rules}
use Rattle.clap.specs.Words.{found_of}
use Rattle.command_line.proofs.RowLaws.{rows-stated}
use Rattle.command_line.proofs.subcommands.report_of_all.Goals as goal

pub returns-in_default-clause-none : goal.returns-in_default-clause-none
returns-in_default-clause-none c = inl (inr (search rules, c.in_default.ensures.none))

pub returns-in_err-listed-clause-none : goal.returns-in_err-listed-clause-none
returns-in_err-listed-clause-none c =
    rw c.from_residual.ensures (inr (inr (inr (inr (inr (inl c.in_err-listed.ensures.none))))))

pub returns-in-Rows-true-clause-none : goal.returns-in-Rows-true-clause-none
returns-in-Rows-true-clause-none c =
    let rows = rows-stated (found_of c.args.found.now) _ _ c.in-Rows-true.is-0 c.in_ok-listed.ensures.stated in
    inr (inr (inr (inr (inl (rows, inr (inr (inr (search rules))))))))
