use Rattle.station_book.proofs.recorded.Recorded.{recorded_faces}
use Rattle.station_book.proofs.laws.recorded_faces.Goals as goal

pub returns : goal.returns
returns c = recorded_faces
