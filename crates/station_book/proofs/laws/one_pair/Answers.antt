use Rattle.station_book.proofs.two_faces.OnePair.{one_two_c, one_two_face}
use Rattle.station_book.proofs.laws.one_pair.Goals as goal

pub returns-clause-two_c : goal.returns-clause-two_c
returns-clause-two_c c limits first second d e small =
    one_two_c limits.two_c small.two_c first second d e

pub returns-clause-direction : goal.returns-clause-direction
returns-clause-direction c limits first second p q small =
    one_two_face limits.two_c small.two_c first second p q
