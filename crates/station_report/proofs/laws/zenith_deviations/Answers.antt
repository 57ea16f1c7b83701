use Rattle.station_report.proofs.ZenithLaws.{is_deviation, one_deviation}
use Rattle.station_report.proofs.laws.zenith_deviations.Goals as goal

pub returns-clause-is : goal.returns-clause-is
returns-clause-is c = λ zeniths some. is_deviation zeniths some

pub returns-clause-one : goal.returns-clause-one
returns-clause-one c = λ zeniths units some is. one_deviation zeniths units some is
