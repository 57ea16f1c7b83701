use Rattle.direction_table.proofs.OneAnswer.{one-table}
use Rattle.direction_table.proofs.laws.one_table.Goals as goal

pub returns : goal.returns
returns c = one-table
