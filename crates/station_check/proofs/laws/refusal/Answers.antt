use Rattle.station_check.proofs.LawLemmas.{refusal}
use Rattle.station_check.proofs.laws.refusal.Goals as goal

pub returns : goal.returns
returns c = refusal
