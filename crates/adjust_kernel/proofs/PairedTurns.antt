-- Observations beside other turns, one by one.
use Rattle.std.proofs.Common.{◌≡◌, ℕ, ◌≤◌, Bool, List, [], ◌∷◌, length, ℤ, ◌+ℤ◌, arith, ap, refl}
use Rattle.std.specs.Prelude.{map}
use Rattle.std.proofs.Math.IntN.{◌-ℤ◌}
use Rattle.std.specs.List.{AllByRecursion}
use Rattle.std.proofs.lemmas.List.Elements.{All-from_recursion, recursion_from_All}
use Rattle.adjust_kernel.specs.Sums.{int_sum_by, squared}
use Rattle.adjust_kernel.specs.TurnedObservations.{TurnedObservation}
use Rattle.adjust_kernel.specs.Residuals.{Choice, residual, sum_of_squares}
use Rattle.adjust_kernel.specs.Connected.{IsDivided}
use Rattle.adjust_kernel.specs.Turns.{with_turns}
use Rattle.adjust_kernel.proofs.ReachLaws.{AllWithin}

-- An observation and another number of full turns for it.
abbrev pub Pair : Type 0
Pair = TurnedObservation × ℤ

-- Each observation with the number of turns at its place, up to where the shorter list ends.
abbrev pub paired : List TurnedObservation → List ℤ → List Pair
paired [] turns = []
paired (r ∷ observations) [] = []
paired (r ∷ observations) (k ∷ turns) = (r, k) ∷ paired observations turns

-- The observation with the other turns.
abbrev pub retuned : Pair → TurnedObservation
retuned x = record x.0 { turn = x.1 }

-- The observation with the difference of its turns.
abbrev pub difference : Pair → TurnedObservation
difference x = record x.0 { turn = x.1 -ℤ x.0.turn }

-- The sum of squares with the observations' own turns, as a sum over the pairs.
pub own_squares : (c : Choice) (observations : List TurnedObservation) (turns : List ℤ)
    → length turns ≡ length observations → sum_of_squares c observations
    ≡ int_sum_by (λ (x : Pair). squared (residual c x.0)) (paired observations turns)
own_squares c [] turns e = refl
own_squares c (r ∷ observations) [] e = absurd (omega arith)
own_squares c (r ∷ observations) (k ∷ turns) e = ap (λ z. squared (residual c r) +ℤ z)
    (own_squares c observations turns (omega arith))

-- The sum of squares with the other turns, as a sum over the pairs.
pub other_squares : (c : Choice) (observations : List TurnedObservation) (turns : List ℤ)
    → sum_of_squares c (with_turns observations turns)
    ≡ int_sum_by (λ (x : Pair). squared (residual c (retuned x))) (paired observations turns)
other_squares c [] turns = refl
other_squares c (r ∷ observations) [] = refl
other_squares c (r ∷ observations) (k ∷ turns) = ap
    (λ z. squared (residual c (record r { turn = k })) +ℤ z) (other_squares c observations turns)

-- There are no more pairs than observations.
pub length-paired : (observations : List TurnedObservation) (turns : List ℤ)
    → length (paired observations turns) ≤ length observations
length-paired [] turns = omega arith
length-paired (r ∷ observations) [] = omega arith
length-paired (r ∷ observations) (k ∷ turns) = let e = length-paired observations turns in
    omega arith

-- What holds of each observation holds of that of each pair.
pub paired-all : (P : TurnedObservation → Type 0) (observations : List TurnedObservation)
    (turns : List ℤ)
    → AllByRecursion P observations
    → AllByRecursion (λ (x : Pair). P x.0) (paired observations turns)
paired-all P [] turns h = tt
paired-all P (r ∷ observations) [] h = tt
paired-all P (r ∷ observations) (k ∷ turns) h = (h.0, paired-all P observations turns h.1)

-- What holds of each pair's observation with the difference of its turns holds of all of these.
pub differences-all : (P : TurnedObservation → Type 0) (xs : List Pair)
    → AllByRecursion (λ (x : Pair). P (difference x)) xs → AllByRecursion P (map difference xs)
differences-all P [] h = tt
differences-all P (x ∷ xs) h = (h.0, differences-all P xs h.1)

differences-within : (part_of_set part_of_target : ℕ → Bool) (observations : List TurnedObservation)
    (turns : List ℤ) → length turns ≡ length observations
    → AllWithin part_of_set part_of_target (map difference (paired observations turns))
    → AllWithin part_of_set part_of_target observations
differences-within p q [] turns e h = tt
differences-within p q (r ∷ observations) [] e h = absurd (omega arith)
differences-within p q (r ∷ observations) (k ∷ turns) e h =
    (h.0, differences-within p q observations turns (omega arith) h.1)

-- Where the observations with the turns' differences leave two parts, so do the observations.
pub differences-divided : (sets targets : ℕ) (observations : List TurnedObservation)
    (turns : List ℤ)
    → length turns ≡ length observations
    → IsDivided sets targets (map difference (paired observations turns))
    → IsDivided sets targets observations
differences-divided sets targets observations turns e d = record {
  part_of_set = d.part_of_set;
  part_of_target = d.part_of_target;
  none_between = All-from_recursion between observations
      (differences-within d.part_of_set d.part_of_target observations turns e
      (recursion_from_All between (map difference (paired observations turns)) d.none_between));
  first_part = d.first_part;
  second_part = d.second_part;
}
  where
    between : TurnedObservation → Type 0
    between r = d.part_of_set r.set ≡ d.part_of_target r.target

-- Where each pair has the turns that its observation gives, all turns are those.
pub turns_by : (f : TurnedObservation → ℤ) (observations : List TurnedObservation) (turns : List ℤ)
    → length turns ≡ length observations
    → AllByRecursion (λ (x : Pair). x.1 ≡ f x.0) (paired observations turns)
    → turns ≡ map f observations
turns_by f [] [] e h = refl
turns_by f [] (k ∷ turns) e h = absurd (omega arith)
turns_by f (r ∷ observations) [] e h = absurd (omega arith)
turns_by f (r ∷ observations) (k ∷ turns) e h = λ i. h.0 i
    ∷ turns_by f observations turns (omega arith) h.1 i
