-- The full turns of an observation in the sheet of means: those that bring the angle to the first
-- target, less the same angle in the first set, into one half circle (profile: half-open, so that a
-- tie at half a circle is turned back).
use Rattle.std.specs.Prelude.{ℕ, List, ℤ, pos, neg_ℤ, ◌+ℤ◌, ◌-ℤ◌, ◌*ℤ◌, ◌≤ℤ◌, ◌<ℤ◌, ◌==◌, ◌&&◌}
use Rattle.std.specs.Prelude.{find}
use Rattle.std.specs.Option.{option_map_or}
use Rattle.adjust_kernel.specs.declared.bounds.TheConstants.{TURN}
use Rattle.adjust_kernel.specs.declared.obs.Obs.{Obs}
use Rattle.adjust_kernel.specs.TurnedObservations.{TurnedObservation}
use Rattle.sheet_means.specs.declared.turn.TheConstants.{HALF_TURN}

-- the direction of a target in a set, by their places from 0
abbrev pub value_of : List Obs → ℕ → ℕ → ℤ
value_of obs s t =
    pos (option_map_or (λ o. o.value) (find (λ o. (o.set == s) && (o.target == t)) obs) 0)

-- the angle from the first target to another in a set, less the same angle in the first set
abbrev pub angle_difference : List Obs → ℕ → ℕ → ℤ
angle_difference obs s t =
    (value_of obs s t -ℤ value_of obs s 0) -ℤ (value_of obs 0 t -ℤ value_of obs 0 0)

-- from half a circle back up to, not including, half a circle on
pub record IsInHalfCircle (z : ℤ) : Type 0 where
  pub low : neg_ℤ HALF_TURN ≤ℤ z
  pub high : z <ℤ HALF_TURN

-- the observation's full turns bring its difference into the half circle
abbrev pub IsTurned : List Obs → TurnedObservation → Type 0
IsTurned obs r =
    IsInHalfCircle (angle_difference obs r.set r.target +ℤ pos TURN *ℤ r.turn)
