use Rattle.std.proofs.Common.{◌≡◌, ◌*◌, ◌≤◌, take, pos}
use Rattle.std.proofs.Math.IntN.{◌*ℤ◌, ◌-ℤ◌}
use Rattle.adjust_kernel.specs.Residuals.{residual}
use Rattle.adjust_kernel.specs.Sums.{int_sum_by}
use Rattle.exact_adjustment.specs.Adjustments.{choice_by}
use Rattle.exact_adjustment.specs.Exact.{observed_by}
use Rattle.station_report.proofs.SquareLaws.{near}
use Rattle.station_report.proofs.squares.squares_by.Given as goal

-- The products of the residuals so far with the factors near them; both are lifted in the sum.
abbrev pub invariant-loop-place : goal.invariant-loop-place
invariant-loop-place l = record {
  sum : (pos l.sum -ℤ pos (l.adjustment.denominator * (2_000 * l.factors)))
      ≡ int_sum_by (λ r. residual (choice_by l.adjustment) r *ℤ near l.directions l.orientations r)
      (take l.place (observed_by l.station l.adjustment));
  sum_in : l.sum ≤ l.adjustment.denominator * 16_000_000 * l.place;
  factors_in : l.factors ≤ 4_000 * l.place;
}
