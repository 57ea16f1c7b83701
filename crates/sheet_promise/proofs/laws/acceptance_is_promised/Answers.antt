use Rattle.sheet_promise.proofs.LawLemmas.{acceptance_is_promised}
use Rattle.sheet_promise.proofs.laws.acceptance_is_promised.Goals as goal

pub returns : goal.returns
returns c = acceptance_is_promised
