use Rattle.limit_texts.proofs.OneLimit.{one-limit}
use Rattle.limit_texts.proofs.laws.one_limit.Goals as goal

pub returns : goal.returns
returns c = one-limit
