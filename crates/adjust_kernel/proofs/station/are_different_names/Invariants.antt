use Rattle.std.proofs.Common.{◌≢◌, ℕ, List, ◌<◌, get_or}
use Rattle.adjust_kernel.specs.Names.{IsName}
use Rattle.adjust_kernel.proofs.EachTwo.{PairsBelow}
use Rattle.adjust_kernel.proofs.station.are_different_names.Given as goal

abbrev pub invariant-loop-place : goal.invariant-loop-place
invariant-loop-place l = ((k : ℕ) → k < l.place → (d : List ℕ) → IsName (get_or l.names k d))
    × PairsBelow (λ a b. a ≢ b) l.names l.place
