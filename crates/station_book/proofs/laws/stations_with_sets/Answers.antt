use Rattle.station_book.proofs.recorded.Recorded.{stations_with_sets}
use Rattle.station_book.proofs.laws.stations_with_sets.Goals as goal

pub returns : goal.returns
returns c = stations_with_sets
