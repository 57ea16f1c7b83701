use Rattle.sheet_promise.proofs.LawLemmas.{same_observations}
use Rattle.sheet_promise.proofs.laws.same_observations.Goals as goal

pub returns : goal.returns
returns c = same_observations
