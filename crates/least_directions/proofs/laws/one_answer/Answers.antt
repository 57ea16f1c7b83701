use Rattle.least_directions.proofs.LeastLaws.{one_distance, one_list}
use Rattle.least_directions.proofs.laws.one_answer.Goals as goal

pub returns-clause-apart : goal.returns-clause-apart
returns-clause-apart c = one_distance

pub returns-clause-rounded : goal.returns-clause-rounded
returns-clause-rounded c = one_list
