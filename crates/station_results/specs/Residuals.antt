-- The residuals of a station, exactly rounded (profile): least over all directions, orientations,
-- denominators and full turns.
use Rattle.std.specs.Prelude.{◌≡◌, ℕ, ◌*◌, List, map, All, ℤ, pos, neg_ℤ, ◌+ℤ◌, ◌-ℤ◌, ◌*ℤ◌}
use Rattle.std.specs.Prelude.{◌≤ℤ◌, ◌<ℤ◌}
use Rattle.std.specs.List.{AllZip}
use Rattle.adjust_kernel.specs.Matching.{Key, observed}
use Rattle.adjust_kernel.specs.Residuals.{Choice, residual}
use Rattle.adjust_kernel.specs.Stations.{StationValue}
use Rattle.adjust_kernel.specs.TurnedObservations.{TurnedObservation}
use Rattle.directions_apart.specs.Arcs.{IsWayRound}
use Rattle.directions_apart.specs.Rounding.{IsRounded}
use Rattle.adjust_kernel.specs.declared.units.TheConstants.{CIRCLE, HALF_UNIT, UNIT}
use Rattle.exact_adjustment.specs.LeastOf.{IsLeastOf, observed_with}
use Rattle.least_directions.specs.LeastDirections.{IsAdjustable}
use Rattle.station_results.specs.declared.adjusted.AdjustedObs.{AdjustedObs}

-- what was observed: the number of the set, the name of the target, and the two-face direction
abbrev pub key_of : AdjustedObs → Key
key_of row = record { set = row.set; target = row.target; value = row.value }

-- a choice with its directions as the readings of a set have them: less the set's orientation
abbrev pub seen_in : Choice → ℕ → Choice
seen_in c set = record c { direction = λ t. c.direction t -ℤ c.orientation set }

-- twice what so many units of 0.001 mgon are more than the residual of an observation, in
-- 0.000000001 gon times the denominator
abbrev pub twice_more : Choice → TurnedObservation → ℤ → ℤ
twice_more c o units =
    pos 2 *ℤ (pos c.denominator *ℤ (pos UNIT *ℤ units) -ℤ pos HALF_UNIT *ℤ residual c o)

-- A residual rounded to 0.001 mgon: it is within half of that, and what lies in the middle of two
-- is rounded up.
pub record IsRoundedResidual (c : Choice) (o : TurnedObservation) (units : ℤ) : Type 0 where
  pub low : neg_ℤ (pos (UNIT * c.denominator)) <ℤ twice_more c o units
  pub high : twice_more c o units ≤ℤ pos (UNIT * c.denominator)

-- An observation, adjusted by a choice.
pub record IsAdjustedObs (c : Choice) (o : TurnedObservation) (row : AdjustedObs) : Type 0 where
  -- The adjusted direction: that of the target less the orientation of the set, from 0 and below a
  -- full circle, rounded to 0.000001 gon, the middle of two upwards.
  pub adjusted : IsRounded (seen_in c o.set) o.target UNIT row.adjusted
  -- The residual: that less the observation, rounded to 0.001 mgon, the middle of two upwards.
  pub residual : IsRoundedResidual c o row.residual

-- The two-face direction and the residual add up to the adjusted direction, but for a full circle:
-- exactly, as they stand here.
abbrev pub AddsUp : AdjustedObs → Type 0
AddsUp row =
    IsWayRound CIRCLE (pos 0) (pos (HALF_UNIT * row.value) +ℤ pos UNIT *ℤ row.residual)
    row.adjusted

-- These are the observations of a station, adjusted by least squares.
pub record AreAdjusted (station : StationValue) (rows : List AdjustedObs) : Type 0 where
  -- One for each observation of the station, in their order: its set, its target, and its two-face
  -- direction.
  pub observed : map key_of rows ≡ observed station
  -- The station's observations hold all sets and targets together, and its exact adjustment keeps
  -- the residual limit: so a least-squares choice is there, and one alone but for a rotation and
  -- whole turns.
  pub adjustable : IsAdjustable station
  -- Each has the adjusted direction and the residual of the observation at its place, whichever
  -- choice of directions, orientations and full turns, over any denominator, is least.
  pub each : (c : Choice) (turns : List ℤ) → IsLeastOf station c turns
      → AllZip (IsAdjustedObs c) (observed_with station turns) rows
  -- And each adds up.
  pub adds_up : All AddsUp rows
