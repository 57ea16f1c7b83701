use Rattle.adjust_kernel.proofs.VerdictLaws.{only_one_verdict}
use Rattle.adjust_kernel.proofs.laws.one_verdict.Goals as goal

pub returns : goal.returns
returns c = only_one_verdict
