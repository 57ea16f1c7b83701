use Rattle.std.proofs.Common.{◌≡◌, ◌<◌, ℕ, pos}
use Rattle.adjust_kernel.specs.Residuals.{target_sum}
use Rattle.exact_adjustment.specs.Adjustments.{choice_in}
use Rattle.exact_adjustment.specs.Sides.{turned}
use Rattle.exact_adjustment.proofs.certificate.are_targets_even.Given as goal

abbrev pub invariant-loop-target : goal.invariant-loop-target
invariant-loop-target l = (n : ℕ) → n < l.target
    → target_sum (choice_in l.denominator l.directions l.orientations) (turned l.obs l.turns) n
    ≡ pos 0
