use Rattle.direction_table.proofs.OneAnswer.{one-part, part-or-fault}
use Rattle.direction_table.proofs.laws.one_part.Goals as goal

pub returns-clause-stated : goal.returns-clause-stated
returns-clause-stated c = one-part

pub returns-clause-no_fault : goal.returns-clause-no_fault
returns-clause-no_fault c = part-or-fault
