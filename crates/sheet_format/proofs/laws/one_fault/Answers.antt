use Rattle.sheet_format.proofs.OneAnswer.{one-fault}
use Rattle.sheet_format.proofs.laws.one_fault.Goals as goal

pub returns : goal.returns
returns c = one-fault
