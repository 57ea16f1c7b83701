use Rattle.station_book.proofs.readings.WithinLimits.{angles_on_circle}
use Rattle.station_book.proofs.laws.on_circle.Goals as goal

pub returns : goal.returns
returns c = angles_on_circle
