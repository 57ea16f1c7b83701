use Rattle.station_report.proofs.ComputedLaws.{one_computed}
use Rattle.station_report.proofs.laws.one_computed.Goals as goal

pub returns : goal.returns
returns c = λ station ds es rs ss m n d e p q. one_computed station ds es rs ss m n d e p q
