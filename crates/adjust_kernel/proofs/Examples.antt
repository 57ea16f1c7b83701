-- The definitions at stations worked by hand.
use Rattle.std.proofs.Common.{◌≡◌, inl, ℕ, zero, suc, Bool, true, false, List, [], ◌∷◌, ℤ, pos}
use Rattle.std.proofs.Common.{neg_ℤ, arith, refl}
use Rattle.std.specs.Prelude.{map}
use Rattle.std.proofs.lemmas.List.Elements.{All-from_recursion}
use Rattle.adjust_kernel.specs.TurnedObservations.{TurnedObservation}
use Rattle.adjust_kernel.specs.Residuals.{Choice, choice_of, residual, sum_of_squares, target_sum}
use Rattle.adjust_kernel.specs.Residuals.{set_sum}
use Rattle.adjust_kernel.specs.Connected.{IsDivided}

abbrev row : ℕ → ℕ → ℕ → ℤ → TurnedObservation
row s t p k = record { set = s; target = t; value = p; turn = k }

-- Two sets of two targets.
abbrev pair : List TurnedObservation
pair = row 0 0 6 (pos 0) ∷ row 0 1 10_000_010 (pos 0) ∷ row 1 0 20_000_004 (pos 0)
    ∷ row 1 1 30_000_012 (pos 0) ∷ []

abbrev pair_sheet : Choice
pair_sheet = choice_of 4 (pos 0 ∷ pos 40_000_024 ∷ [])
    (neg_ℤ (pos 20) ∷ neg_ℤ (pos 80_000_020) ∷ [])

pair_residuals : map (residual pair_sheet) pair ≡ neg_ℤ (pos 4) ∷ pos 4 ∷ pos 4 ∷ neg_ℤ (pos 4) ∷ []
pair_residuals = refl

pair_squares : sum_of_squares pair_sheet pair ≡ pos 64
pair_squares = refl

pair_target_sums : map (target_sum pair_sheet pair) (0 ∷ 1 ∷ []) ≡ pos 0 ∷ pos 0 ∷ []
pair_target_sums = refl

pair_set_sums : map (set_sum pair_sheet pair) (0 ∷ 1 ∷ []) ≡ pos 0 ∷ pos 0 ∷ []
pair_set_sums = refl

-- The second direction one more.
abbrev moved_direction : Choice
moved_direction = choice_of 4 (pos 0 ∷ pos 40_000_025 ∷ [])
    (neg_ℤ (pos 20) ∷ neg_ℤ (pos 80_000_020) ∷ [])

moved_direction_squares : sum_of_squares moved_direction pair ≡ pos 66
moved_direction_squares = refl

moved_direction_sum : target_sum moved_direction pair 1 ≡ pos 2
moved_direction_sum = refl

-- The orientations one more and one less.
abbrev moved_orientations : Choice
moved_orientations = choice_of 4 (pos 0 ∷ pos 40_000_024 ∷ [])
    (neg_ℤ (pos 19) ∷ neg_ℤ (pos 80_000_021) ∷ [])

moved_orientations_squares : sum_of_squares moved_orientations pair ≡ pos 68
moved_orientations_squares = refl

moved_orientations_sums : map (set_sum moved_orientations pair) (0 ∷ 1 ∷ []) ≡ neg_ℤ (pos 2) ∷ pos 2
    ∷ []
moved_orientations_sums = refl

-- Three sets that each miss one of three targets.
abbrev triangle : List TurnedObservation
triangle = row 0 0 0 (pos 0) ∷ row 0 1 100 (pos 0) ∷ row 1 1 0 (pos 0) ∷ row 1 2 100 (pos 0)
    ∷ row 2 0 79_999_806 (neg_ℤ (pos 1)) ∷ row 2 2 0 (pos 0) ∷ []

abbrev triangle_sheet : Choice
triangle_sheet = choice_of 1 (pos 0 ∷ pos 98 ∷ pos 196 ∷ []) (neg_ℤ (pos 1) ∷ pos 97 ∷ pos 195 ∷ [])

triangle_residuals : map (residual triangle_sheet) triangle ≡ pos 1 ∷ neg_ℤ (pos 1) ∷ pos 1
    ∷ neg_ℤ (pos 1) ∷ neg_ℤ (pos 1) ∷ pos 1 ∷ []
triangle_residuals = refl

triangle_sums : map (target_sum triangle_sheet triangle) (0 ∷ 1 ∷ 2 ∷ []) ≡ pos 0 ∷ pos 0 ∷ pos 0
    ∷ []
triangle_sums = refl

-- Two sets with two targets each and none in common.
abbrev two_pairs : List TurnedObservation
two_pairs = row 0 0 0 (pos 0) ∷ row 0 1 100 (pos 0) ∷ row 1 2 0 (pos 0) ∷ row 1 3 100 (pos 0) ∷ []

two_pairs_divided : IsDivided 2 4 two_pairs
two_pairs_divided = record {
  part_of_set = first_set;
  part_of_target = first_targets;
  none_between = All-from_recursion (λ (r : TurnedObservation). first_set r.set
      ≡ first_targets r.target)
      two_pairs (refl, (refl, (refl, (refl, tt))));
  first_part = inl (0, (omega arith), refl);
  second_part = inl (1, (omega arith), refl);
}
  where
    first_set : ℕ → Bool
    first_set zero = true
    first_set (suc n) = false

    first_targets : ℕ → Bool
    first_targets zero = true
    first_targets (suc zero) = true
    first_targets (suc (suc n)) = false

-- Both choices of the divided station reach the sum 0.
two_pairs_squares : sum_of_squares (choice_of 1 (pos 0 ∷ pos 100 ∷ pos 0 ∷ pos 100 ∷ [])
    (pos 0 ∷ pos 0 ∷ [])) two_pairs ≡ pos 0
two_pairs_squares = refl

two_pairs_turned_squares : sum_of_squares (choice_of 1 (pos 0 ∷ pos 100 ∷ pos 1 ∷ pos 101 ∷ [])
    (pos 0 ∷ pos 1 ∷ [])) two_pairs ≡ pos 0
two_pairs_turned_squares = refl
