-- Angles in whole half units: what stands for them in a sum of squares.
use Rattle.std.specs.Prelude.{◌≡◌, ℕ, ◌+◌, ◌*◌, ◌≤◌, ◌<◌, List, length, slice_index_or}
use Rattle.adjust_kernel.specs.declared.bounds.TheConstants.{TURN}

-- This many whole half units, of less than a full circle, go into an angle, which is in half units
-- times the denominator.
pub record IsWhole (denominator angle whole : ℕ) : Type 0 where
  pub low : denominator * whole ≤ angle
  pub high : angle < denominator * (whole + 1)
  pub below : whole < TURN

-- The whole half units of each of these angles.
pub record AreWhole (denominator : ℕ) (angles wholes : List ℕ) : Type 0 where
  pub count : length wholes ≡ length angles
  pub each : (i : ℕ) → i < length angles
      → IsWhole denominator (slice_index_or angles i 0) (slice_index_or wholes i 0)
