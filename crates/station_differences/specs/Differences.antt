-- The stated directions of a station less its least-squares directions, target by target, after one
-- rotation (profile): least over all directions, orientations, denominators and full turns.
use Rattle.std.specs.Prelude.{◌≡◌, ℕ, ◌*◌, ◌<◌, List, map, length, ℤ, pos, neg_ℤ, ◌-ℤ◌, ◌*ℤ◌}
use Rattle.std.specs.Prelude.{◌≤ℤ◌, ◌<ℤ◌, slice_index_or}
use Rattle.std.specs.List.{AllZip}
use Rattle.adjust_kernel.specs.Residuals.{Choice}
use Rattle.adjust_kernel.specs.Stations.{StationValue}
use Rattle.directions_apart.specs.Apart.{circle_of, difference, stated_by}
use Rattle.directions_apart.specs.Arcs.{IsWayRound}
use Rattle.adjust_kernel.specs.declared.units.TheConstants.{CIRCLE, PARTS, UNIT}
use Rattle.exact_adjustment.specs.LeastOf.{IsLeastOf}
use Rattle.least_directions.specs.LeastDirections.{AreRounded}
use Rattle.station_differences.specs.BestArcs.{IsBestArc}
use Rattle.station_differences.specs.declared.compared.TargetDifference.{TargetDifference}

-- twice what so many units of 0.001 mgon are more than a way less half a spread, in parts times the
-- denominator
abbrev pub twice_more_than_way : ℕ → ℕ → ℕ → ℤ → ℤ
twice_more_than_way denominator way spread units =
    pos 2 *ℤ (pos denominator *ℤ (pos (PARTS * UNIT) *ℤ units)) -ℤ (pos 2 *ℤ pos way -ℤ pos spread)

-- A way from the start of an arc, counted from the arc's middle and rounded to 0.001 mgon: the
-- units are within half of that, and what lies in the middle of two is rounded up.
pub record IsRoundedFromMiddle (denominator way spread : ℕ) (units : ℤ) : Type 0 where
  pub low : neg_ℤ (pos (PARTS * UNIT * denominator))
      <ℤ twice_more_than_way denominator way spread units
  pub high : twice_more_than_way denominator way spread units ≤ℤ pos (PARTS * UNIT * denominator)

-- The angle at a place after the rotation that brings the middle of an arc to 0, in units of 0.001
-- mgon: the way from the angle at which the arc begins onward to it, less half the spread, rounded.
pub record IsFromMiddle (denominator circle : ℕ) (angle : ℕ → ℤ) (start spread place : ℕ)
    (units : ℤ) : Type 0 where
  pub way : ℕ
  pub onward : IsWayRound circle (angle start) (angle place) way
  pub rounded : IsRoundedFromMiddle denominator way spread units

-- The differences of stated directions from those of a choice, in units of 0.001 mgon, after the
-- rotation that makes the largest of them smallest: the one that brings the middle of the narrowest
-- arc to 0 that holds them all; of several as narrow the one that begins at the earliest target.
pub record AreDifferences (targets : ℕ) (c : Choice) (stated : ℕ → ℤ) (differences : List ℤ)
    : Type 0 where
  pub start : ℕ
  pub spread : ℕ
  pub best : IsBestArc (circle_of c) (difference c stated) targets start spread
  pub count : length differences ≡ targets
  pub each : (t : ℕ) → t < targets
      → IsFromMiddle c.denominator (circle_of c) (difference c stated) start spread t
      (slice_index_or differences t (pos 0))

-- the names of rows
abbrev pub names_of : List TargetDifference → List (List ℕ)
names_of rows = map (λ row. row.target) rows

-- their stated directions, in parts, 81 of which are 0.000000001 gon
abbrev pub stated_of : List TargetDifference → List ℕ
stated_of rows = map (λ row. row.stated) rows

-- their least-squares directions, in units of 0.000000001 gon
abbrev pub least_of : List TargetDifference → List ℕ
least_of rows = map (λ row. row.least) rows

-- their differences, in units of 0.001 mgon
abbrev pub differences_of : List TargetDifference → List ℤ
differences_of rows = map (λ row. row.difference) rows

-- These are the targets of a station, each with its stated direction, its least-squares direction,
-- and the difference of the two.
pub record AreCompared (station : StationValue) (stated : List ℤ) (rows : List TargetDifference)
    : Type 0 where
  -- One for each target of the station, in their order.
  pub named : names_of rows ≡ station.targets
  -- Each has the stated direction at its place, from 0 and below a full circle.
  pub stated_on : AllZip (IsWayRound (PARTS * CIRCLE) (pos 0)) stated (stated_of rows)
  -- Each has the least-squares direction, counted from that of the first target and rounded to
  -- 0.000001 gon, the middle of two upwards, whichever choice of directions, orientations and full
  -- turns, over any denominator, is least.
  pub rounded : AreRounded station UNIT (least_of rows)
  -- And each has the difference, exact and rounded once, whichever choice is least.
  pub differ : (c : Choice) (turns : List ℤ) → IsLeastOf station c turns
      → AreDifferences (length station.targets) c (stated_by stated) (differences_of rows)
