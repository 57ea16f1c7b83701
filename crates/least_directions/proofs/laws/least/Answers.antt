use Rattle.exact_adjustment.specs.Adjustments.{choice_by}
use Rattle.least_directions.proofs.LeastLaws.{least_of}
use Rattle.least_directions.proofs.laws.least.Goals as goal

pub returns : goal.returns
returns c = λ station a. (choice_by a.adjustment, (a.adjustment.turns, least_of station a))
