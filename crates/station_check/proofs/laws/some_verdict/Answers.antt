use Rattle.station_check.proofs.LawLemmas.{some_verdict}
use Rattle.station_check.proofs.laws.some_verdict.Goals as goal

pub returns : goal.returns
returns c = some_verdict
