use Rattle.station_book.proofs.recorded.ListedOnce.{listed_once}
use Rattle.station_book.proofs.laws.listed_once.Goals as goal

pub returns : goal.returns
returns c = listed_once
