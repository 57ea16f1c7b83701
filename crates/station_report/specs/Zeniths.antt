-- The zenith angles of a target by all sets that have it (textbook): their mean, and the standard
-- deviation of that mean by the residuals of the sets, each rounded once (profile).
use Rattle.std.specs.Prelude.{ℕ, zero, suc, ◌+◌, ◌-◌, ◌*◌, ◌/◌, List, [], ◌∷◌, length, sum}
use Rattle.std.specs.Prelude.{ℤ, pos, ◌-ℤ◌, unsigned_abs, ◌==◌, nat_le, if◌then◌else◌}
use Rattle.adjust_kernel.specs.Sums.{int_sum_by, squared}
use Rattle.adjust_kernel.specs.declared.units.TheConstants.{HALF_UNIT, UNIT}
use Rattle.station_book.specs.Stations.{SurveyedStation}
use Rattle.station_report.specs.Columns.{each_place}
use Rattle.station_report.specs.Deviations.{IsRootOf, square_below}
use Rattle.station_report.specs.Readings.{target_at, two_i_at, zenith_at, zenith_mean}

-- the zenith angle of both faces of an observation in half units, by the observation's place
abbrev pub zenith_mean_at : SurveyedStation → ℕ → ℕ
zenith_mean_at its place = zenith_mean (zenith_at its place) (two_i_at its place)

-- the same, if the observation is of this target
abbrev pub zenith_of : SurveyedStation → ℕ → ℕ → List ℕ
zenith_of its target place =
    if target_at its.station place == target then zenith_mean_at its place ∷ [] else []

-- The zenith angles of a target: one of each set that has the target.
abbrev pub zeniths_of : SurveyedStation → ℕ → List ℕ
zeniths_of its target = each_place (length its.station.obs) (zenith_of its target)

-- The mean of zenith angles in units of 0.000001 gon, of which a half unit has 5: rounded, the
-- middle of two upwards.
abbrev pub mean_of_zeniths : List ℕ → ℕ
mean_of_zeniths zeniths =
    (2 * (HALF_UNIT / UNIT * sum zeniths) + length zeniths) / (2 * length zeniths)

-- The residual of a zenith angle: the mean of all less it, in half units times their number.
abbrev pub zenith_residual : List ℕ → ℕ → ℤ
zenith_residual zeniths one = pos (sum zeniths) -ℤ pos (length zeniths * one)

-- the sum of the squares of all residuals, in half units times their number
abbrev pub zenith_squares : List ℕ → ℤ
zenith_squares zeniths = int_sum_by (λ one. squared (zenith_residual zeniths one)) zeniths

-- The degrees of freedom of a mean, which are one less than the zenith angles, times their number.
abbrev pub parts_of_mean : List ℕ → ℕ
parts_of_mean zeniths = (length zeniths - 1) * length zeniths

-- This is the standard deviation of the mean of zenith angles in units of 0.001 mgon: the root of
-- the sum of the squares over the degrees of freedom and over the number of zenith angles, rounded,
-- the middle of two upwards.
abbrev pub IsZenithDeviation : List ℕ → ℕ → Type 0
IsZenithDeviation zeniths units =
    IsRootOf (length zeniths) (parts_of_mean zeniths) (zenith_squares zeniths) units

-- Of the numbers from 1 to a bound the greatest whose square, of half a unit less, is not above a
-- fraction; 0 where none is. The fraction is in quarters of the square of a unit.
abbrev pub root_up_to : ℕ → ℕ → ℕ → ℕ
root_up_to zero parts quarters = 0
root_up_to (suc n) parts quarters =
    if nat_le (parts * square_below (suc n)) quarters then suc n else root_up_to n parts quarters

-- The root of a fraction, rounded, the middle of two upwards.
abbrev pub rounded_root : ℕ → ℕ → ℕ
rounded_root parts quarters = root_up_to quarters parts quarters

-- The standard deviation of the mean of two zenith angles or more: `laws::zenith_deviations` says
-- that it alone is one.
abbrev pub zenith_deviation : List ℕ → ℕ
zenith_deviation zeniths = rounded_root
    (parts_of_mean zeniths * (length zeniths * length zeniths))
    (100 * unsigned_abs (zenith_squares zeniths))
