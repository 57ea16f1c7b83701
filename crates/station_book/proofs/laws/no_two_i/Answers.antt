use Rattle.station_book.proofs.two_faces.PairTests.{two_i_missing}
use Rattle.station_book.proofs.laws.no_two_i.Goals as goal

pub returns : goal.returns
returns c = two_i_missing
