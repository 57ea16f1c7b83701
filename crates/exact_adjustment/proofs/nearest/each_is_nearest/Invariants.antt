use Rattle.std.proofs.Common.{◌<◌, ℕ}
use Rattle.adjust_kernel.specs.Residuals.{choice_of, residual}
use Rattle.exact_adjustment.specs.Nearest.{IsNearest}
use Rattle.exact_adjustment.proofs.ObservedLaws.{turned_at}
use Rattle.exact_adjustment.proofs.nearest.each_is_nearest.Given as goal

abbrev pub invariant-loop-place : goal.invariant-loop-place
invariant-loop-place l = (n : ℕ) → n < l.place
    → IsNearest (residual (choice_of 1 l.directions l.orientations) (turned_at l.station l.turns n))
