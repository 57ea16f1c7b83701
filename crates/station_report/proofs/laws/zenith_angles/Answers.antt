use Rattle.station_report.proofs.FaceLaws.{mean_of_zeniths, zeniths_as_read}
use Rattle.station_report.proofs.laws.zenith_angles.Goals as goal

pub returns-clause-read : goal.returns-clause-read
returns-clause-read c = λ limits h name k f r. zeniths_as_read limits h name k f r

pub returns-clause-mean : goal.returns-clause-mean
returns-clause-mean c = λ limits h name k f r. mean_of_zeniths limits h name k f r
