use Rattle.command_line.proofs.MistakeLaws.{small-count}
use Rattle.job_statements.proofs.NumberLaws.{no_numbers}
use Rattle.command_line.proofs.found.count_of.Goals as goal

pub returns-in-Err-Wrong-clause-none : goal.returns-in-Err-Wrong-clause-none
returns-in-Err-Wrong-clause-none c =
    let wrong = rw c.in-Err-Wrong.field-0-is at c.in-Err-Wrong.ensures.why in
    no_numbers _ _ _ _ (small-count c.args.option) wrong
