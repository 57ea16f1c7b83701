use Rattle.changed_lines.proofs.stated.change_of.Goals as goal

pub returns-in_err-change-clause-none : goal.returns-in_err-change-clause-none
returns-in_err-change-clause-none c =
    rw c.from_residual.ensures
    (λ change says. (rw c.as_bytes.ensures.value at c.in_err-change.ensures.none) change says.says)
