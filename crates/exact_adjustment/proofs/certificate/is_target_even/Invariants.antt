use Rattle.std.proofs.Common.{◌≡◌, ◌*◌, ◌≤◌, take, pos}
use Rattle.std.specs.Prelude.{◌-ℤ◌, ◌==◌}
use Rattle.adjust_kernel.specs.Residuals.{residual}
use Rattle.adjust_kernel.specs.Sums.{int_sum_where}
use Rattle.exact_adjustment.specs.Adjustments.{choice_in}
use Rattle.exact_adjustment.specs.Sides.{turned}
use Rattle.exact_adjustment.proofs.certificate.is_target_even.Given as goal

abbrev pub invariant-loop-place : goal.invariant-loop-place
invariant-loop-place l = record {
  sum : (pos l.left -ℤ pos l.right) ≡ int_sum_where (λ r. r.target == l.target)
      (residual (choice_in l.denominator l.directions l.orientations))
      (take l.place (turned l.obs l.turns));
  left_in : l.left ≤ l.denominator * 1_600_000_000 * l.place;
  right_in : l.right ≤ l.denominator * 1_600_000_000 * l.place;
}
