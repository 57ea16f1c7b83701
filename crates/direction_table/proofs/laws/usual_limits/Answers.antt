use Rattle.direction_table.proofs.UsualLimits.{few, many}
use Rattle.direction_table.proofs.laws.usual_limits.Goals as goal

pub returns-clause-few : goal.returns-clause-few
returns-clause-few c = few

pub returns-clause-many : goal.returns-clause-many
returns-clause-many c = many
