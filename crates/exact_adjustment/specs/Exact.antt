-- The exact adjustment of a station, complete or not: all sums of residuals are 0.
use Rattle.std.specs.Prelude.{◌≡◌, ℕ, ◌*◌, ◌≤◌, ◌<◌, List, length, map, ℤ, pos, ◌-ℤ◌, ◌*ℤ◌}
use Rattle.std.specs.Prelude.{slice_index_or}
use Rattle.std.specs.Int.RustNames.{unsigned_abs}
use Rattle.adjust_kernel.specs.declared.bounds.TheConstants.{TURN}
use Rattle.adjust_kernel.specs.Firsts.{IsFirstWhere}
use Rattle.adjust_kernel.specs.TurnedObservations.{TurnedObservation}
use Rattle.adjust_kernel.specs.Residuals.{Choice, residual, target_sum, set_sum}
use Rattle.adjust_kernel.specs.Stations.{StationValue}
use Rattle.adjust_kernel.specs.Turns.{AreTurnedWhole, IsLimited}
use Rattle.exact_adjustment.specs.Adjustments.{AdjustmentValue, IsAdjustment, choice_by}
use Rattle.exact_adjustment.specs.LeastOf.{observed_with}

-- The station's observations with the full turns of an adjustment.
abbrev pub observed_by : StationValue → AdjustmentValue → List TurnedObservation
observed_by station a = observed_with station a.turns

-- All sums of residuals, of the targets and of the sets, are 0 (textbook: the normal equations).
pub record AddsUp (station : StationValue) (c : Choice) (turns : List ℤ) : Type 0 where
  pub target_sums : (t : ℕ) → t < length station.targets
      → target_sum c (observed_with station turns) t ≡ pos 0
  pub set_sums : (s : ℕ) → s < length station.sets
      → set_sum c (observed_with station turns) s ≡ pos 0

-- An exact adjustment of the station: full turns for each observation, a direction for each target,
-- an orientation for each set, and all sums of residuals are 0.
pub record IsExact (station : StationValue) (a : AdjustmentValue) : Type 0 where
  pub rules : IsAdjustment a
  pub each : length a.turns ≡ length station.obs
  pub each_target : length a.directions ≡ length station.targets
  pub each_set : length a.orientations ≡ length station.sets
  pub sums : AddsUp station (choice_by a) a.turns

-- No residual is above the limit, which is in half units.
abbrev pub KeepsLimit : StationValue → AdjustmentValue → ℕ → Type 0
KeepsLimit station a limit = IsLimited limit (choice_by a) (observed_by station a)

-- The size of the residual of the observation at a place, in half units times the denominator.
abbrev pub size_at : StationValue → AdjustmentValue → ℕ → ℕ
size_at station a place =
    unsigned_abs
    (slice_index_or (map (residual (choice_by a)) (observed_by station a)) place (pos 0))

-- The residual of the observation at this place is above the limit, and the greatest in size: the
-- first of them where several are.
pub record IsGreatestAbove (station : StationValue) (a : AdjustmentValue) (limit place : ℕ) :
    Type 0 where
  pub above : limit * a.denominator < size_at station a place
  pub first : IsFirstWhere (λ n. (m : ℕ) → m < length station.obs
      → size_at station a m ≤ size_at station a n) (length station.obs) place

-- Another choice, with other full turns, is the adjustment but for whole turns of targets and of
-- sets and for one rotation, that of the first target.
pub record IsSameButTurned (station : StationValue) (a : AdjustmentValue) (c : Choice)
    (turns : List ℤ) : Type 0 where
  pub turned : AreTurnedWhole (observed_by station a) turns
  pub rotation : ℤ
  pub directions : (t : ℕ) → t < length station.targets
      → pos c.denominator *ℤ (choice_by a).direction t
      -ℤ pos a.denominator
      *ℤ (c.direction t -ℤ pos (c.denominator * TURN) *ℤ turned.of_target t) ≡ rotation
  pub orientations : (s : ℕ) → s < length station.sets
      → pos c.denominator *ℤ (choice_by a).orientation s
      -ℤ pos a.denominator
      *ℤ (c.orientation s -ℤ pos (c.denominator * TURN) *ℤ turned.of_set s) ≡ rotation
