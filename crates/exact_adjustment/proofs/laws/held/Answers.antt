use Rattle.exact_adjustment.proofs.HeldLaws.{held, kept}
use Rattle.exact_adjustment.proofs.LawLemmas.{never_held}
use Rattle.exact_adjustment.proofs.laws.held.Goals as goal

pub returns-clause-same : goal.returns-clause-same
returns-clause-same c = λ station a limit is_station tied exact limited. (
  held station a is_station tied exact limited limit,
  kept station a is_station tied exact limited limit,
)

pub returns-clause-no_fault : goal.returns-clause-no_fault
returns-clause-no_fault c = never_held
