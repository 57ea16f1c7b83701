-- Two readings of a target, one of each face: `laws::no_two_c`, `no_two_i`, `some_pair`,
-- `one_pair`.
pub mod ComputedPairs
pub mod PairTests
pub mod OnePair
