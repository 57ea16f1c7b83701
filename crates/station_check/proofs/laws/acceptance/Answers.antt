use Rattle.station_check.proofs.LawLemmas.{acceptance}
use Rattle.station_check.proofs.laws.acceptance.Goals as goal

pub returns : goal.returns
returns c = acceptance
