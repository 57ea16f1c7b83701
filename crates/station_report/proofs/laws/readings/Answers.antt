use Rattle.station_report.proofs.FaceLaws.{as_read}
use Rattle.station_report.proofs.laws.readings.Goals as goal

pub returns : goal.returns
returns c = λ limits h name k f small r. as_read limits h name k f small r
