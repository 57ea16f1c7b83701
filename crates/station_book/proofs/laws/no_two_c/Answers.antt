use Rattle.station_book.proofs.two_faces.PairTests.{two_c_missing}
use Rattle.station_book.proofs.laws.no_two_c.Goals as goal

pub returns : goal.returns
returns c = two_c_missing
