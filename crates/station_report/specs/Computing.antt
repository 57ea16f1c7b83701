-- What is computed of a station, as the code holds it.
use Rattle.std.specs.Prelude.{◌≡◌, ℕ, ◌*◌, ◌≤◌, length, pos}
use Rattle.adjust_kernel.specs.Residuals.{sum_of_squares}
use Rattle.adjust_kernel.specs.Stations.{StationValue}
use Rattle.adjust_kernel.specs.declared.bounds.TheConstants.{LARGEST_RESIDUAL_LIMIT}
use Rattle.exact_adjustment.specs.Adjustments.{AdjustmentValue, choice_by}
use Rattle.exact_adjustment.specs.Exact.{IsExact, KeepsLimit, observed_by}
use Rattle.exact_adjustment.specs.LeastOf.{AreTied}
use Rattle.station_report.specs.Deviations.{degrees_of}
use Rattle.station_report.specs.Stating.{IsComputed}
use Rattle.station_report.specs.declared.computed.Computed.{Computed}

-- It is that of the station.
abbrev pub IsComputedOf : StationValue → Computed → Type 0
IsComputedOf station c = IsComputed station c.directions.items c.rows.items c.greatest c.accuracy

-- This is the sum of the squares of the residuals of an exact adjustment of a station with degrees
-- of freedom, over the square of the denominator: what it is times the denominator.
pub record AreSquaresOf (station : StationValue) (a : AdjustmentValue) (squares : ℕ) : Type 0 where
  pub exact : IsExact station a
  pub limited : KeepsLimit station a LARGEST_RESIDUAL_LIMIT
  pub tied : AreTied station
  pub free : 1 ≤ degrees_of station
  pub sum : pos (a.denominator * squares) ≡ sum_of_squares (choice_by a) (observed_by station a)
  pub bound : squares ≤ a.denominator
      * (LARGEST_RESIDUAL_LIMIT * LARGEST_RESIDUAL_LIMIT * length station.obs)
