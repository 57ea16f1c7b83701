use Rattle.std.proofs.Common.{refl}
use Rattle.job_statements.proofs.numbers.with_text.Goals as goal

pub returns-in-Err-clause-why : goal.returns-in-Err-clause-why
returns-in-Err-clause-why c = (refl, λ numbers holds. c.in-Err.ensures.fault numbers)
