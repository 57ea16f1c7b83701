-- A table beside its station, a line for each target: of one that the table lacks its least-squares
-- direction alone.
use Rattle.std.specs.Prelude.{◌≡◌, ◌*◌, ⊤, ℕ, List, map, length, ℤ, pos, Option, Some, None}
use Rattle.std.specs.List.{AllZip, filter_map}
use Rattle.adjust_kernel.specs.Residuals.{Choice}
use Rattle.adjust_kernel.specs.Stations.{StationValue}
use Rattle.directions_apart.specs.Apart.{stated_by}
use Rattle.directions_apart.specs.Arcs.{IsWayRound}
use Rattle.adjust_kernel.specs.declared.units.TheConstants.{CIRCLE, PARTS, UNIT}
use Rattle.exact_adjustment.specs.LeastOf.{IsLeastOf}
use Rattle.least_directions.specs.LeastDirections.{AreRounded}
use Rattle.station_differences.specs.Differences.{AreDifferences, differences_of}
use Rattle.station_differences.specs.StatedTargets.{choice_at, stated_directions, stated_places}
use Rattle.station_differences.specs.declared.compared.TargetDifference.{TargetDifference}
use Rattle.station_differences.specs.declared.line.TargetLine.{TargetLine}
use Rattle.station_differences.specs.declared.line.TargetLine.TheVariants.{Compared, Lacking}

-- the name on a line
abbrev pub target_on : TargetLine → List ℕ
target_on (Compared row) = row.target
target_on (Lacking target) = target.target

-- the least-squares direction on a line, in units of 0.000000001 gon
abbrev pub least_on : TargetLine → ℕ
least_on (Compared row) = row.least
least_on (Lacking target) = target.least

-- what a line has of a target that is stated
abbrev pub row_on : TargetLine → Option TargetDifference
row_on (Compared row) = Some row
row_on (Lacking target) = None

-- the lines of the stated targets alone
abbrev pub compared_of : List TargetLine → List TargetDifference
compared_of lines = filter_map row_on lines

-- A line has what is stated of its target: the direction, from 0 and below a full circle; or, where
-- none is stated, none.
abbrev pub HasStated : Option ℤ → TargetLine → Type 0
HasStated (Some direction) (Compared row) =
    IsWayRound (PARTS * CIRCLE) (pos 0) direction row.stated
HasStated (Some direction) (Lacking target) = ⊥
HasStated None (Compared row) = ⊥
HasStated None (Lacking target) = ⊤

-- These are the targets of a station, each with its least-squares direction, and with what is
-- stated of it and the difference of the two, where something is.
pub record AreLines (station : StationValue) (stated : List (Option ℤ)) (lines : List TargetLine)
    : Type 0 where
  -- One for each target of the station, in their order.
  pub named : map target_on lines ≡ station.targets
  -- Each has what is stated at its place, and a place at which nothing is stated has a line too.
  pub stated_on : AllZip HasStated stated lines
  -- Each, stated or not, has the least-squares direction, counted from that of the first target of
  -- the station and rounded to 0.000001 gon, the middle of two upwards, whichever choice of
  -- directions, orientations and full turns, over any denominator, is least.
  pub rounded : AreRounded station UNIT (map least_on lines)
  -- And those that are stated have the difference, exact and rounded once, whichever choice is
  -- least: the rotation is the best of these targets.
  pub differ : (c : Choice) (turns : List ℤ) → IsLeastOf station c turns
      → AreDifferences (length (stated_places stated)) (choice_at (stated_places stated) c)
      (stated_by (stated_directions stated)) (differences_of (compared_of lines))
