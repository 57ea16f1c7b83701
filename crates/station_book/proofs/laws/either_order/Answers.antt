use Rattle.station_book.proofs.readings.WithinLimits.{two_c_any_order, two_i_any_order}
use Rattle.station_book.proofs.laws.either_order.Goals as goal

pub returns-clause-two_c : goal.returns-clause-two_c
returns-clause-two_c c = two_c_any_order

pub returns-clause-two_i : goal.returns-clause-two_i
returns-clause-two_i c = two_i_any_order
