-- Adjustments of a station in whole numbers of any size.
use Rattle.std.specs.Prelude.{◌≡◌, ℕ, ◌*◌, ◌≤◌, ◌<◌, List, length, map, All, ℤ, pos}
use Rattle.std.specs.Prelude.{slice_index_or}
use Rattle.adjust_kernel.specs.Residuals.{Choice, choice_of}
use Rattle.adjust_kernel.specs.Within.{IsWithin}
use Rattle.adjust_kernel.specs.declared.bounds.TheConstants.{LARGEST_TURN, MOST_SETS}
use Rattle.adjust_kernel.specs.declared.bounds.TheConstants.{MOST_TARGETS, TURN}
use Rattle.exact_adjustment.specs.declared.bounds.TheConstants.{LARGEST_FACTOR}
use Rattle.wide_number.specs.Limbs.{WIDE_LIMIT}

-- An adjustment as contracts see it: a denominator, a direction for each target and an orientation
-- for each set, in half units (0.005 mgon) times the denominator, and the full turns of each
-- observation.
pub record AdjustmentValue : Type 0 where
  pub denominator : ℕ
  pub directions : List ℕ
  pub orientations : List ℕ
  pub turns : List ℤ

-- The adjustment with these parts.
abbrev pub adjustment_of : ℕ → List ℕ → List ℕ → List ℤ → AdjustmentValue
adjustment_of denominator directions orientations turns = record {
  denominator = denominator;
  directions = directions;
  orientations = orientations;
  turns = turns;
}

-- Each angle is on the circle: below a full circle.
abbrev pub AreOnCircle : ℕ → List ℕ → Type 0
AreOnCircle denominator angles = All (λ angle. angle < denominator * TURN) angles

-- The rules that every adjustment keeps (profile): some targets and not too many, not too many
-- sets, a denominator, the first direction 0, all angles on the circle, few turns. The denominator
-- is so short that sums over a whole station fit in the width of the numbers.
pub record IsAdjustment (a : AdjustmentValue) : Type 0 where
  pub some : 1 ≤ length a.directions
  pub few_targets : length a.directions ≤ MOST_TARGETS
  pub few_sets : length a.orientations ≤ MOST_SETS
  pub positive : 1 ≤ a.denominator
  pub short : a.denominator * LARGEST_FACTOR < WIDE_LIMIT
  pub datum : slice_index_or a.directions 0 0 ≡ 0
  pub directions : AreOnCircle a.denominator a.directions
  pub orientations : AreOnCircle a.denominator a.orientations
  pub turns : All (IsWithin LARGEST_TURN) a.turns

-- These directions and orientations, as a choice.
abbrev pub choice_in : ℕ → List ℕ → List ℕ → Choice
choice_in denominator directions orientations =
    choice_of denominator (map pos directions) (map pos orientations)

-- The directions and orientations of an adjustment, as a choice.
abbrev pub choice_by : AdjustmentValue → Choice
choice_by a = choice_in a.denominator a.directions a.orientations
