use Rattle.std.proofs.Common.{◌≡◌, ◌<◌, ℕ, List, pos}
use Rattle.adjust_kernel.specs.TurnedObservations.{TurnedObservation}
use Rattle.adjust_kernel.specs.Residuals.{Choice, set_sum}
use Rattle.adjust_kernel.specs.Tallies.{all_added}
use Rattle.adjust_kernel.proofs.sums.first_uneven_set.Given as goal

abbrev pub invariant-loop-set : goal.invariant-loop-set
invariant-loop-set g l = (c : Choice) (rs : List TurnedObservation)
    → g.T.Tally.StandsFor l.tally (all_added c rs) → (s : ℕ) → s < l.set → set_sum c rs s ≡ pos 0
