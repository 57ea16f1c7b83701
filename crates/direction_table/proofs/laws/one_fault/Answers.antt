use Rattle.direction_table.proofs.OneAnswer.{one-fault}
use Rattle.direction_table.proofs.laws.one_fault.Goals as goal

pub returns : goal.returns
returns c = one-fault
