use Rattle.station_book.proofs.names.StationNames.{its_station}
use Rattle.station_book.proofs.laws.its_station.Goals as goal

pub returns : goal.returns
returns c = its_station
