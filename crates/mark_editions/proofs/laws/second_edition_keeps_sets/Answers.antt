use Rattle.mark_editions.proofs.Editions.{same_sets}
use Rattle.mark_editions.proofs.SomeSets.{some_sets}
use Rattle.mark_editions.proofs.laws.second_edition_keeps_sets.Goals as goal

pub returns-clause-same : goal.returns-clause-same
returns-clause-same c = same_sets

pub returns-clause-some : goal.returns-clause-some
returns-clause-some c = some_sets
