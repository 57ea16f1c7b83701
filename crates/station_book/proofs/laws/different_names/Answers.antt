use Rattle.station_book.proofs.names.StationNames.{different_names}
use Rattle.station_book.proofs.laws.different_names.Goals as goal

pub returns : goal.returns
returns c = different_names
