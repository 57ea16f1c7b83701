use Rattle.station_book.proofs.recorded.Recorded.{recorded}
use Rattle.station_book.proofs.laws.recorded.Goals as goal

pub returns : goal.returns
returns c = recorded
