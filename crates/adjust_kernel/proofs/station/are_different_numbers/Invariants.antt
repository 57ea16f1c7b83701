use Rattle.std.proofs.Common.{◌≢◌}
use Rattle.adjust_kernel.proofs.EachTwo.{PairsBelow}
use Rattle.adjust_kernel.proofs.station.are_different_numbers.Given as goal

abbrev pub invariant-loop-place : goal.invariant-loop-place
invariant-loop-place l = PairsBelow (λ a b. a ≢ b) l.numbers l.place
