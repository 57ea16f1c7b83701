-- Least squares, over every denominator: no choice is left out, whatever fractions it takes
-- (textbook).
use Rattle.std.specs.Prelude.{◌≡◌, ◌≢◌, ◌⊎◌, ℕ, ◌*◌, ◌≤◌, ◌<◌, List, ℤ, pos, ◌*ℤ◌, ◌-ℤ◌, ◌≤ℤ◌, ◌<ℤ◌}
use Rattle.adjust_kernel.specs.TurnedObservations.{TurnedObservation}
use Rattle.adjust_kernel.specs.Residuals.{Choice, sum_of_squares}

-- The sum of squares of a choice over denominator D is the fraction Q / D^2. Beside another choice,
-- over D', it is the whole number Q * D'^2: by these numbers two sums compare without a division.
abbrev pub sum_beside : Choice → Choice → List TurnedObservation → ℤ
sum_beside other c observations =
    pos (other.denominator * other.denominator) *ℤ sum_of_squares c observations

-- The sum of squares of a choice over these observations is no larger than another's over its
-- observations.
abbrev pub IsNoLargerSum : Choice → List TurnedObservation → Choice → List TurnedObservation
    → Type 0
IsNoLargerSum c observations other other_observations =
    sum_beside other c observations ≤ℤ sum_beside c other other_observations

-- It is smaller.
abbrev pub IsSmallerSum : Choice → List TurnedObservation → Choice → List TurnedObservation → Type 0
IsSmallerSum c observations other other_observations =
    sum_beside other c observations <ℤ sum_beside c other other_observations

-- It is the same.
abbrev pub IsSameSum : Choice → List TurnedObservation → Choice → List TurnedObservation → Type 0
IsSameSum c observations other other_observations =
    sum_beside other c observations ≡ sum_beside c other other_observations

-- No choice, over any denominator, has a smaller sum of squares.
abbrev pub IsLeast : Choice → List TurnedObservation → Type 0
IsLeast c observations =
    (other : Choice) → 1 ≤ other.denominator → IsNoLargerSum c observations other observations

-- Some choice has a smaller sum of squares.
pub record HasBetter (c : Choice) (observations : List TurnedObservation) : Type 0 where
  pub other : Choice
  pub denominator : 1 ≤ other.denominator
  pub smaller : IsSmallerSum other observations c observations

-- The two choices differ by one rotation of the whole circle; by none where the other's first
-- direction is 0.
pub record DiffersByRotation (sets targets : ℕ) (c other : Choice) : Type 0 where
  pub rotation : ℤ
  pub directions : (t : ℕ) → t < targets
      → pos other.denominator *ℤ c.direction t -ℤ pos c.denominator *ℤ other.direction t
      ≡ rotation
  pub orientations : (s : ℕ) → s < sets
      → pos other.denominator *ℤ c.orientation s -ℤ pos c.denominator *ℤ other.orientation s
      ≡ rotation
  pub none : other.direction 0 ≡ pos 0 → rotation ≡ pos 0

-- Whatever choice reaches the same sum differs by one rotation. It is said of a choice whose first
-- direction is 0, as that of an accepted sheet is: so where both first directions are 0, the two do
-- not differ.
abbrev pub IsUnique : ℕ → ℕ → Choice → List TurnedObservation → Type 0
IsUnique sets targets c observations =
    (other : Choice) → 1 ≤ other.denominator → IsSameSum c observations other observations
    → DiffersByRotation sets targets c other

-- Another choice over the same denominator, with the first direction 0, has the same sum.
pub record HasAnother (sets targets : ℕ) (c : Choice)
    (observations : List TurnedObservation) : Type 0 where
  pub other : Choice
  pub denominator : other.denominator ≡ c.denominator
  pub first : other.direction 0 ≡ pos 0
  pub different : ((s : ℕ) × (s < sets) × (other.orientation s ≢ c.orientation s))
      ⊎ ((t : ℕ) × (t < targets) × (other.direction t ≢ c.direction t))
  pub same_sum : sum_of_squares other observations ≡ sum_of_squares c observations
