use Rattle.station_book.proofs.recorded.SomeObservation.{some_observation}
use Rattle.station_book.proofs.laws.some_observation.Goals as goal

pub returns : goal.returns
returns c = some_observation
