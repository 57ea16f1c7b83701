use Rattle.station_book.proofs.recorded.WholeFile.{no_reading_lost}
use Rattle.station_book.proofs.laws.no_reading_lost.Goals as goal

pub returns : goal.returns
returns c = no_reading_lost
