-- Whether the observations hold all sets and targets of a station together (textbook).
use Rattle.std.specs.Prelude.{◌≡◌, ◌⊎◌, ℕ, ◌<◌, Bool, true, false, List, All}
use Rattle.adjust_kernel.specs.TurnedObservations.{TurnedObservation}

-- Some set or some target is in this part; the parts are called true and false.
abbrev pub HasMember : ℕ → ℕ → (ℕ → Bool) → (ℕ → Bool) → Bool → Type 0
HasMember sets targets part_of_set part_of_target part =
    ((s : ℕ) × (s < sets) × (part_of_set s ≡ part))
    ⊎ ((t : ℕ) × (t < targets) × (part_of_target t ≡ part))

-- No observation stands between the two parts.
abbrev pub HasNoneBetween : (ℕ → Bool) → (ℕ → Bool) → List TurnedObservation → Type 0
HasNoneBetween part_of_set part_of_target observations =
    All (λ r. part_of_set r.set ≡ part_of_target r.target) observations

-- The sets and targets together can be divided into two parts, neither of them empty, with no
-- observation between the parts.
pub record IsDivided (sets targets : ℕ) (observations : List TurnedObservation) : Type 0 where
  pub part_of_set : ℕ → Bool
  pub part_of_target : ℕ → Bool
  pub none_between : HasNoneBetween part_of_set part_of_target observations
  pub first_part : HasMember sets targets part_of_set part_of_target true
  pub second_part : HasMember sets targets part_of_set part_of_target false

-- There is no such division.
abbrev pub IsConnected : ℕ → ℕ → List TurnedObservation → Type 0
IsConnected sets targets observations = IsDivided sets targets observations → ⊥
