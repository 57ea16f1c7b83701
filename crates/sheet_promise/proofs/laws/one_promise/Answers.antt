use Rattle.sheet_promise.proofs.LawLemmas.{one_promise}
use Rattle.sheet_promise.proofs.laws.one_promise.Goals as goal

pub returns : goal.returns
returns c = one_promise
