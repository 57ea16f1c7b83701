use Rattle.std.proofs.Common.{◌≡◌, ◌<◌, ℕ, List, pos}
use Rattle.adjust_kernel.specs.TurnedObservations.{TurnedObservation}
use Rattle.adjust_kernel.specs.Residuals.{Choice, target_sum}
use Rattle.adjust_kernel.specs.Tallies.{all_added}
use Rattle.adjust_kernel.proofs.sums.first_uneven_target.Given as goal

abbrev pub invariant-loop-target : goal.invariant-loop-target
invariant-loop-target g l = (c : Choice) (rs : List TurnedObservation)
    → g.T.Tally.StandsFor l.tally (all_added c rs) → (t : ℕ) → t < l.target
    → target_sum c rs t ≡ pos 0
