use Rattle.station_book.specs.Pairs.{direction}
use Rattle.station_book.proofs.two_faces.ComputedPairs.{computed_direction}
use Rattle.station_book.proofs.two_faces.PairTests.{a_two_c, a_two_i}
use Rattle.station_book.proofs.laws.some_pair.Goals as goal

pub returns-clause-two_c : goal.returns-clause-two_c
returns-clause-two_c c limits first second small = a_two_c limits.two_c first second

pub returns-clause-direction : goal.returns-clause-direction
returns-clause-direction c limits first second small one two e =
    (direction first second, computed_direction limits.two_c first second one two e)

pub returns-clause-two_i : goal.returns-clause-two_i
returns-clause-two_i c limits = a_two_i limits.two_i
