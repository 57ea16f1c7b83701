use Rattle.station_check.proofs.LawLemmas.{station_of_file}
use Rattle.station_check.proofs.laws.station_of_file.Goals as goal

pub returns : goal.returns
returns c = station_of_file
