-- Differences as angles on the circle.
use Rattle.std.specs.Prelude.{◌≡◌, ℕ, ◌<◌, List, length, ℤ, pos, slice_index_or}
use Rattle.adjust_kernel.specs.Residuals.{Choice}
use Rattle.directions_apart.specs.Apart.{circle_of, difference}
use Rattle.directions_apart.specs.Arcs.{IsWayRound}

-- the angle at a place
abbrev pub angle_of : List ℕ → ℕ → ℤ
angle_of angles i = pos (slice_index_or angles i 0)

-- The differences of the first so many targets from a choice, each from 0 and below a full circle.
pub record AreAngles (c : Choice) (stated : ℕ → ℤ) (targets : ℕ) (angles : List ℕ) : Type 0 where
  pub count : length angles ≡ targets
  pub each : (t : ℕ) → t < targets
      → IsWayRound (circle_of c) (pos 0) (difference c stated t) (slice_index_or angles t 0)
