use Rattle.direction_table.proofs.OneAnswer.{table-or-fault}
use Rattle.direction_table.proofs.laws.some_answer.Goals as goal

pub returns : goal.returns
returns c = table-or-fault
