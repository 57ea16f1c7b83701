-- What is said of a station's least-squares directions: least over all directions, orientations,
-- denominators and full turns.
use Rattle.std.specs.Prelude.{◌≡◌, ℕ, ◌*◌, ◌<◌, List, length, map, ℤ, pos, slice_index_or}
use Rattle.adjust_kernel.specs.Residuals.{Choice}
use Rattle.adjust_kernel.specs.Stations.{StationValue, IsStation}
use Rattle.adjust_kernel.specs.declared.bounds.TheConstants.{LARGEST_RESIDUAL_LIMIT}
use Rattle.directions_apart.specs.Apart.{IsApart, stated_by}
use Rattle.directions_apart.specs.Rounding.{IsRounded, from_first}
use Rattle.adjust_kernel.specs.declared.units.TheConstants.{PARTS}
use Rattle.exact_adjustment.specs.Adjustments.{AdjustmentValue}
use Rattle.exact_adjustment.specs.Exact.{IsExact, KeepsLimit}
use Rattle.exact_adjustment.specs.LeastOf.{AreTied, IsLeastOf}

-- The station's observations hold all sets and targets together, and it has an exact adjustment
-- that keeps the largest residual limit: so a least-squares choice is there, and one alone but for
-- a rotation and whole turns.
pub record IsAdjustable (station : StationValue) : Type 0 where
  pub rules : IsStation station
  pub tied : AreTied station
  pub adjustment : AdjustmentValue
  pub exact : IsExact station adjustment
  pub limited : KeepsLimit station adjustment LARGEST_RESIDUAL_LIMIT

-- So far are stated directions, in parts of which 0.000000001 gon has 81, and the numbers that are
-- off from them by so many parts at most, apart from the least-squares directions, in units of
-- 0.000001 gon: one rotation brings each within that of the least-squares one, and none brings them
-- all nearer by a unit, whichever choice is least.
pub record AreApart (station : StationValue) (stated : ℕ → ℤ) (off apart : ℕ) : Type 0 where
  pub adjustable : IsAdjustable station
  pub from_each : (c : Choice) (turns : List ℤ) → IsLeastOf station c turns
      → IsApart (length station.targets) c stated off apart

-- These are the least-squares directions of the targets, counted from the first, each rounded to
-- whole steps, the middle of two upwards, whichever choice is least.
pub record AreRounded (station : StationValue) (step : ℕ) (directions : List ℕ) : Type 0 where
  pub adjustable : IsAdjustable station
  pub count : length directions ≡ length station.targets
  pub each : (t : ℕ) → t < length station.targets → (c : Choice) (turns : List ℤ)
      → IsLeastOf station c turns → IsRounded (from_first c) t step (slice_index_or directions t 0)

-- rounded directions, in units of 0.000000001 gon, as directions that are stated, in parts
abbrev pub as_stated : List ℕ → ℕ → ℤ
as_stated directions = stated_by (map (λ direction. pos (PARTS * direction)) directions)
