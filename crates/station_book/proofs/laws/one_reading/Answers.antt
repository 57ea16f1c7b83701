use Rattle.station_book.proofs.readings.OneReading.{one_reading}
use Rattle.station_book.proofs.laws.one_reading.Goals as goal

pub returns : goal.returns
returns c = one_reading
