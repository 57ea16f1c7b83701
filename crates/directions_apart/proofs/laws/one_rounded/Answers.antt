use Rattle.directions_apart.proofs.RoundingLaws.{one_rounded, rounded_of_0}
use Rattle.directions_apart.proofs.laws.one_rounded.Goals as goal

pub returns-clause-one : goal.returns-clause-one
returns-clause-one c = one_rounded

pub returns-clause-of_0 : goal.returns-clause-of_0
returns-clause-of_0 c = rounded_of_0
