-- Full turns that are nearest to angles which the observations carry, in their order and again and
-- again, from the first target to all sets and targets (profile).
use Rattle.std.specs.Prelude.{◌≡◌, ◌≢◌, ℕ, zero, suc, ◌+◌, ◌*◌, ◌/◌, ◌%◌, ◌<◌, Bool, true, false}
use Rattle.std.specs.Prelude.{◌==◌, ◌||◌, ◌&&◌}
use Rattle.std.specs.Prelude.{All, length, slice_index_or, List, ℤ, pos, neg_ℤ, ◌≤ℤ◌, ◌<ℤ◌}
use Rattle.adjust_kernel.specs.Residuals.{Choice, choice_of, residual}
use Rattle.adjust_kernel.specs.Stations.{StationValue}
use Rattle.adjust_kernel.specs.declared.bounds.TheConstants.{TURN}
use Rattle.adjust_kernel.specs.declared.obs.Obs.{Obs}
use Rattle.exact_adjustment.specs.LeastOf.{observed_with}

-- Which sets and which targets have an angle.
pub record Reached : Type 0 where
  pub of_set : ℕ → Bool
  pub of_target : ℕ → Bool

-- At the start the first target has one, and nothing else.
abbrev pub at_start : Reached
at_start = record { of_set = λ s. false; of_target = λ t. t == 0 }

-- An observation with one end that has an angle gives the other end its own.
abbrev pub after : Obs → Reached → Reached
after o r = record {
  of_set = λ s. r.of_set s || ((s == o.set) && r.of_target o.target);
  of_target = λ t. r.of_target t || ((t == o.target) && r.of_set o.set);
}

-- The place of the observation that a step goes along: they are gone through in their order, again
-- and again.
abbrev pub place_of : StationValue → ℕ → ℕ
place_of station step = step % length station.obs

-- The observation that a step goes along.
abbrev pub obs_of : StationValue → ℕ → Obs
obs_of station step =
    slice_index_or station.obs (place_of station step)
    (record { set = 0; target = 0; value = 0 })

-- What has an angle before a step.
abbrev pub reached : StationValue → ℕ → Reached
reached station zero = at_start
reached station (suc step) = after (obs_of station step) (reached station step)

-- The observation of this step carries an angle: one of its ends has one, and the other has none.
abbrev pub Carries : StationValue → ℕ → Type 0
Carries station step =
    (reached station step).of_set (obs_of station step).set
    ≢ (reached station step).of_target (obs_of station step).target

-- From half a circle back up to, not including, half a circle on.
pub record IsNearest (z : ℤ) : Type 0 where
  pub low : neg_ℤ (pos (TURN / 2)) ≤ℤ z
  pub high : z <ℤ pos (TURN / 2)

-- Each observation that carries agrees exactly with these angles, with its full turns.
abbrev pub AgreeWhereCarried : StationValue → List ℤ → Choice → Type 0
AgreeWhereCarried station turns angles =
    (step : ℕ) → Carries station step
    → residual angles
    (slice_index_or (observed_with station turns) (place_of station step)
    (record { set = 0; target = 0; value = 0; turn = pos 0 }))
    ≡ pos 0

-- The steps of as many rounds of the observations as there are sets and targets: each round gives
-- one of them at least its angle, as long as one that has none can be reached.
abbrev pub steps_of : StationValue → ℕ
steps_of station = (length station.sets + length station.targets) * length station.obs

-- All sets and targets have an angle after these steps.
pub record AreReached (station : StationValue) : Type 0 where
  pub sets : (s : ℕ) → s < length station.sets
      → (reached station (steps_of station)).of_set s ≡ true
  pub targets : (t : ℕ) → t < length station.targets
      → (reached station (steps_of station)).of_target t ≡ true

-- The full turns of the observations are those nearest to these angles, which the observations carry
-- to all sets and targets.
pub record AreNearestTo (station : StationValue) (turns : List ℤ) (angles : Choice) : Type 0 where
  pub reached : AreReached station
  pub carried : AgreeWhereCarried station turns angles
  pub each : All (λ r. IsNearest (residual angles r)) (observed_with station turns)

-- They are those nearest to these directions, one of each target, and orientations, one of each set,
-- in whole half units.
pub record AreNearestToBoth (station : StationValue) (turns directions orientations : List ℤ) :
    Type 0 where
  pub each_target : length directions ≡ length station.targets
  pub each_set : length orientations ≡ length station.sets
  pub nearest : AreNearestTo station turns (choice_of 1 directions orientations)

-- They are those nearest to angles in whole half units.
pub record HasNearestTurns (station : StationValue) (turns : List ℤ) : Type 0 where
  pub angles : Choice
  pub whole : angles.denominator ≡ 1
  pub nearest : AreNearestTo station turns angles
