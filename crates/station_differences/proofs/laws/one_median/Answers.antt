use Rattle.station_differences.proofs.MedianLaws.{is, only}
use Rattle.station_differences.proofs.laws.one_median.Goals as goal

pub returns-clause-is : goal.returns-clause-is
returns-clause-is c = is

pub returns-clause-only : goal.returns-clause-only
returns-clause-only c = only
