-- The observations of a station with the full turns that a sheet adds to them: what least squares
-- is about.
use Rattle.std.specs.Prelude.{ℕ, ℤ}

-- An observation: its set and its target by their places from 0, its value on the circle in half
-- units (0.005 mgon), and the full turns that the sheet adds to it.
pub record TurnedObservation : Type 0 where
  pub set : ℕ
  pub target : ℕ
  pub value : ℕ
  pub turn : ℤ
