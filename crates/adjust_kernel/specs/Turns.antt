-- Least squares over all full turns too: what a residual limit adds.
use Rattle.std.specs.Prelude.{◌≡◌, ℕ, ◌≤◌, ◌<◌, ◌*◌, List, [], ◌∷◌, All, length, map}
use Rattle.std.specs.Prelude.{slice_index_or, ℤ, pos, ◌+ℤ◌, ◌-ℤ◌}
use Rattle.std.specs.Int.RustNames.{unsigned_abs}
use Rattle.adjust_kernel.specs.Least.{IsNoLargerSum, IsSameSum}
use Rattle.adjust_kernel.specs.TurnedObservations.{TurnedObservation}
use Rattle.adjust_kernel.specs.Residuals.{Choice, residual}
use Rattle.adjust_kernel.specs.Within.{IsWithin}

-- No residual is above the limit, which is in half units.
abbrev pub IsLimited : ℕ → Choice → List TurnedObservation → Type 0
IsLimited limit c observations =
    All (λ r. IsWithin (pos (limit * c.denominator)) (residual c r)) observations

-- The residual of the observation at this place is in size above the limit, which is in half units.
abbrev pub IsAbove : ℕ → Choice → List TurnedObservation → ℕ → Type 0
IsAbove limit c observations place =
    limit * c.denominator < unsigned_abs
    (slice_index_or (map (residual c) observations) place (pos 0))

-- The observations with these full turns, one for each, in place of their own.
abbrev pub with_turns : List TurnedObservation → List ℤ → List TurnedObservation
with_turns [] turns = []
with_turns (r ∷ observations) [] = []
with_turns (r ∷ observations) (k ∷ turns) = record r { turn = k } ∷ with_turns observations turns

-- No choice, over any denominator and with any full turns, has a smaller sum of squares.
abbrev pub IsLeastOverTurns : Choice → List TurnedObservation → Type 0
IsLeastOverTurns c observations =
    (other : Choice) (turns : List ℤ) → length turns ≡ length observations → 1 ≤ other.denominator
    → IsNoLargerSum c observations other (with_turns observations turns)

-- These turns are the observations' own but for whole turns of targets and of sets.
pub record AreTurnedWhole (observations : List TurnedObservation) (turns : List ℤ) : Type 0 where
  pub of_target : ℕ → ℤ
  pub of_set : ℕ → ℤ
  pub turns_are : turns ≡ map (λ r. r.turn +ℤ of_target r.target -ℤ of_set r.set) observations

-- Other full turns reach the same sum only by turning targets and sets as a whole.
abbrev pub OnlyTurnedWhole : Choice → List TurnedObservation → Type 0
OnlyTurnedWhole c observations =
    (other : Choice) (turns : List ℤ) → length turns ≡ length observations → 1 ≤ other.denominator
    → IsSameSum c observations other (with_turns observations turns)
    → AreTurnedWhole observations turns
