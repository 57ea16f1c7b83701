-- Rows and lines by one adjustment of their station.
use Rattle.std.specs.Prelude.{◌≡◌, ℕ, ◌*◌, ◌<◌, List, length, map, ℤ, pos, Option, slice_index_or}
use Rattle.std.specs.List.{AllZip}
use Rattle.adjust_kernel.specs.Residuals.{Choice}
use Rattle.directions_apart.specs.Apart.{stated_by}
use Rattle.directions_apart.specs.Arcs.{IsWayRound}
use Rattle.directions_apart.specs.Rounding.{IsRounded}
use Rattle.adjust_kernel.specs.declared.units.TheConstants.{CIRCLE, PARTS, UNIT}
use Rattle.station_differences.specs.Differences.{AreDifferences, differences_of, least_of}
use Rattle.station_differences.specs.Differences.{names_of, stated_of}
use Rattle.station_differences.specs.Lines.{HasStated, compared_of, least_on, target_on}
use Rattle.station_differences.specs.StatedTargets.{choice_at, stated_directions, stated_places}
use Rattle.station_differences.specs.declared.compared.TargetDifference.{TargetDifference}
use Rattle.station_differences.specs.declared.line.TargetLine.{TargetLine}

-- The rows of these targets, with their stated directions, the choice's directions, rounded, and
-- the differences of the two.
pub record AreRowsBy (c : Choice) (targets : List (List ℕ)) (stated : List ℤ)
    (rows : List TargetDifference) : Type 0 where
  pub named : names_of rows ≡ targets
  pub stated_on : AllZip (IsWayRound (PARTS * CIRCLE) (pos 0)) stated (stated_of rows)
  pub count : length (least_of rows) ≡ length targets
  pub rounded : (t : ℕ) → t < length (least_of rows)
      → IsRounded c t UNIT (slice_index_or (least_of rows) t 0)
  pub differ : AreDifferences (length targets) c (stated_by stated) (differences_of rows)

-- The lines of these targets, with what is stated of each, the choice's directions, rounded, and
-- the differences of those that are stated.
pub record AreLinesBy (c : Choice) (targets : List (List ℕ)) (stated : List (Option ℤ))
    (lines : List TargetLine) : Type 0 where
  pub named : map target_on lines ≡ targets
  pub stated_on : AllZip HasStated stated lines
  pub count : length (map least_on lines) ≡ length targets
  pub rounded : (t : ℕ) → t < length (map least_on lines)
      → IsRounded c t UNIT (slice_index_or (map least_on lines) t 0)
  pub differ : AreDifferences (length (stated_places stated)) (choice_at (stated_places stated) c)
      (stated_by (stated_directions stated)) (differences_of (compared_of lines))
