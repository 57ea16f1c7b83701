-- The accuracy of a station's directions by the residuals of its observations: the sum of their
-- squares, the standard deviation of one two-face direction, and that of the mean of several
-- (textbook), each exactly rounded (profile).
use Rattle.std.specs.Prelude.{◌≡◌, ℕ, ◌+◌, ◌-◌, ◌*◌, ◌≤◌, List, Option, Some, None}
use Rattle.std.specs.Prelude.{length, ℤ, pos, ◌*ℤ◌, ◌≤ℤ◌, ◌<ℤ◌}
use Rattle.adjust_kernel.specs.Residuals.{Choice, sum_of_squares}
use Rattle.adjust_kernel.specs.Stations.{StationValue}
use Rattle.exact_adjustment.specs.LeastOf.{IsLeastOf, observed_with}
use Rattle.station_report.specs.declared.accuracy.Accuracy.{Accuracy}

-- The degrees of freedom of a station's adjustment: its observations less its targets and its sets,
-- and 1 more, for all may be rotated together.
abbrev pub degrees_of : StationValue → ℕ
degrees_of station = (length station.obs + 1) - (length station.targets + length station.sets)

-- The square of half a unit of 0.001 mgon more than a number of them, times 4, so that it is whole.
abbrev pub square_above : ℕ → ℕ
square_above units = (2 * units + 1) * (2 * units + 1)

-- The square of half a unit less, times 4. Of no units it is 0.
abbrev pub square_below : ℕ → ℕ
square_below units = (2 * units - 1) * (2 * units - 1)

-- This is the root of a sum of squares, in half units times the denominator, over the degrees of
-- freedom, rounded to 0.001 mgon: within half of that, and what lies in the middle of two is
-- rounded up. A half unit (0.005 mgon) is 5 units of 0.001 mgon: so the sum has 100 quarters of the
-- square of one.
pub record IsRootOf (denominator degrees : ℕ) (squares : ℤ) (units : ℕ) : Type 0 where
  pub low : pos (degrees * (denominator * denominator) * square_below units)
      ≤ℤ (pos 100 *ℤ squares)
  pub high : (pos 100 *ℤ squares)
      <ℤ pos (degrees * (denominator * denominator) * square_above units)

-- This is a sum of squares, in half units times the denominator, rounded to the square of 0.001
-- mgon: within half of that, and what lies in the middle of two is rounded up. A half unit has 5
-- units of 0.001 mgon: so the sum has 50 halves of the square of one.
pub record IsSumOf (denominator : ℕ) (squares : ℤ) (units : ℕ) : Type 0 where
  pub low : pos (denominator * denominator * (2 * units - 1)) ≤ℤ (pos 50 *ℤ squares)
  pub high : (pos 50 *ℤ squares) <ℤ pos (denominator * denominator * (2 * units + 1))

-- This holds of the denominator and the sum of the squares of all residuals, whichever choice of
-- directions, orientations and full turns, over any denominator, is least.
abbrev pub OfEachLeast : StationValue → (ℕ → ℤ → Type 0) → Type 0
OfEachLeast station Holds = (c : Choice) (turns : List ℤ) → IsLeastOf station c turns
    → Holds c.denominator (sum_of_squares c (observed_with station turns))

-- This is the standard deviation of a mean of so many two-face directions, in units of 0.001 mgon:
-- the root of the sum of squares over the degrees of freedom and over their number.
abbrev pub IsDeviationOf : StationValue → ℕ → ℕ → Type 0
IsDeviationOf station number units = OfEachLeast station
    (λ denominator squares. IsRootOf denominator (degrees_of station * number) squares units)

-- The station has each target in each set: as many observations as these can have.
abbrev pub HasAll : StationValue → Type 0
HasAll station = length station.obs ≡ length station.sets * length station.targets

-- The standard deviation of each adjusted direction, which is the mean of all sets where each has
-- each target; none of other stations.
abbrev pub IsOfAdjusted : StationValue → Option ℕ → Type 0
IsOfAdjusted station None = ¬ (HasAll station)
IsOfAdjusted station (Some units) =
    HasAll station × IsDeviationOf station (length station.sets) units

-- The station has degrees of freedom, and this is the accuracy of its directions.
pub record HasAccuracy (station : StationValue) (accuracy : Accuracy) : Type 0 where
  pub some : 1 ≤ degrees_of station
  pub squares : OfEachLeast station
      (λ denominator squares. IsSumOf denominator squares accuracy.squares)
  pub of_one : IsDeviationOf station 1 accuracy.of_one
  pub of_adjusted : IsOfAdjusted station accuracy.of_adjusted

-- The accuracy of a station: none where no angle was measured twice.
abbrev pub IsAccuracy : StationValue → Option Accuracy → Type 0
IsAccuracy station None = degrees_of station ≡ 0
IsAccuracy station (Some accuracy) = HasAccuracy station accuracy
