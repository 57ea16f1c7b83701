use Rattle.std.proofs.Common.{◌≡◌, ◌<◌, ℕ, pos}
use Rattle.adjust_kernel.specs.Residuals.{set_sum}
use Rattle.exact_adjustment.specs.Adjustments.{choice_in}
use Rattle.exact_adjustment.specs.Sides.{turned}
use Rattle.exact_adjustment.proofs.certificate.are_sets_even.Given as goal

abbrev pub invariant-loop-set : goal.invariant-loop-set
invariant-loop-set l = (n : ℕ) → n < l.set
    → set_sum (choice_in l.denominator l.directions l.orientations) (turned l.obs l.turns) n
    ≡ pos 0
