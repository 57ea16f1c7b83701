use Rattle.directions_apart.proofs.RoundingLaws.{rounded_agrees, rounded_near}
use Rattle.directions_apart.proofs.laws.rounded.Goals as goal

pub returns-clause-near : goal.returns-clause-near
returns-clause-near c = rounded_near

pub returns-clause-apart : goal.returns-clause-apart
returns-clause-apart c = rounded_agrees
