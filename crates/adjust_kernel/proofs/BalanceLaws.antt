-- Where the sums of the targets and sets that there are vanish, all do.
use Rattle.std.proofs.Common.{◌≡◌, ℕ, ◌<◌, ◌≤◌, cond, eqb, List, [], ◌∷◌, ℤ, pos, ◌+ℤ◌, arith, refl}
use Rattle.std.specs.List.{AllByRecursion}
use Rattle.std.proofs.lemmas.Bool.{ne_eqb}
use Rattle.adjust_kernel.specs.TurnedObservations.{TurnedObservation}
use Rattle.adjust_kernel.specs.Residuals.{Choice, target_sum, set_sum}
use Rattle.adjust_kernel.specs.Sums.{int_sum_where}
use native.Mathlib.Decide.{dec_lt}

-- The residuals of each target and of each set add to 0: the normal equations.
pub record IsBalanced (c : Choice) (observations : List TurnedObservation) : Type 0 where
  pub targets : (t : ℕ) → target_sum c observations t ≡ pos 0
  pub sets : (s : ℕ) → set_sum c observations s ≡ pos 0

none_pass : {X : Type 0} (key : X → ℕ) (f : X → ℤ) (n : ℕ) (xs : List X)
    → AllByRecursion (λ x. key x < n) xs → (k : ℕ) → n ≤ k
    → int_sum_where (λ x. eqb (key x) k) f xs ≡ pos 0
none_pass key f n [] h k le = refl
none_pass key f n (x ∷ xs) h k le =
    let lt : key x < n = h.0 in
    λ i. cond (ne_eqb (key x) k (λ e. apart (key x) k n e lt le) i) (f x) (pos 0)
    +ℤ none_pass key f n xs h.1 k le i
  where
    apart : (a k n : ℕ) → a ≡ k → a < n → n ≤ k → ⊥
    apart a k n e l m = omega arith

-- Where all keys are below n and the sum over each of them is 0, the sum over any key is 0.
pub all_vanish : {X : Type 0} (key : X → ℕ) (f : X → ℤ) (n : ℕ) (xs : List X)
    → AllByRecursion (λ x. key x < n) xs → ((k : ℕ) → k < n
    → int_sum_where (λ x. eqb (key x) k) f xs ≡ pos 0) → (k : ℕ)
    → int_sum_where (λ x. eqb (key x) k) f xs ≡ pos 0
all_vanish key f n xs h v k = by (dec_lt k n)
  where
    by : Dec (k < n) → int_sum_where (λ x. eqb (key x) k) f xs ≡ pos 0
    by (yes l) = v k l
    by (no m) = none_pass key f n xs h k (omega arith)
