use Rattle.least_directions.proofs.LeastLaws.{rounded_is_apart, rounded_is_near}
use Rattle.least_directions.proofs.laws.rounded.Goals as goal

pub returns-clause-near : goal.returns-clause-near
returns-clause-near c = rounded_is_near

pub returns-clause-apart : goal.returns-clause-apart
returns-clause-apart c = rounded_is_apart
