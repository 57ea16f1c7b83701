use Rattle.adjust_kernel.proofs.VerdictLaws.{some_verdict}
use Rattle.adjust_kernel.proofs.laws.some_verdict.Goals as goal

pub returns : goal.returns
returns c = some_verdict
