-- How far a residual can change where no residual is above the limit and the other sum of squares
-- isn't greater: by less than 253,000 half units, the square of which is above 4 * 4,000 * 2,000^2.
use Rattle.std.proofs.Common.{◌≡◌, ℕ, ◌*◌, ◌≤◌, List, length, ℤ, pos, negsuc, ◌+ℤ◌, ◌≤ℤ◌, arith}
use Rattle.std.proofs.Math.IntN.{◌*ℤ◌, ◌-ℤ◌}
use Rattle.std.proofs.Math.Nat.{mul-le-mul}
use Rattle.std.specs.List.{AllByRecursion}
use Rattle.std.proofs.lemmas.Int.{ints}
use Rattle.adjust_kernel.specs.declared.bounds.TheConstants.{MOST_ROWS, LARGEST_RESIDUAL_LIMIT}
use Rattle.adjust_kernel.specs.Sums.{int_sum_by, squared}
use Rattle.adjust_kernel.specs.Within.{IsWithin}
use Rattle.adjust_kernel.proofs.Ring.{num, ◌⊕◌, ◌⊗◌, same_value}
use Rattle.adjust_kernel.proofs.SumLaws.{int_sum_by-add, int_sum_by-scale, AllByRecursion-map}
use Rattle.adjust_kernel.proofs.LeastLaws.{squared-not_negative}
use Rattle.adjust_kernel.proofs.SquareBounds.{int_sum_by-at_most, int_sum_by-below, each-at_most}
use Rattle.adjust_kernel.proofs.SquareBounds.{squared_difference, within_squared, squared_within}

-- More than any change of a residual, in half units.
abbrev pub MOST_CHANGE : ℕ
MOST_CHANGE = 253_000

within_more : (m n : ℕ) (z : ℤ) → m ≤ n → IsWithin (pos m) z → IsWithin (pos n) z
within_more m n z h w = let l = w.low in let k = w.high in
    record { low = omega (arith, ints); high = omega (arith, ints) }

scale_at_most : (k m : ℕ) (q : ℤ) → q ≤ℤ pos m → (pos k *ℤ q) ≤ℤ pos (k * m)
scale_at_most k m (pos a) h = let e : k * a ≤ k * m =
    mul-le-mul (omega arith) (omega (arith, ints)) in omega (arith, ints)
scale_at_most k m (negsuc a) h = omega (arith, ints)

doubled : (d e : ℕ) (x v : ℤ) → squared (pos d *ℤ x -ℤ pos e *ℤ v)
    ≤ℤ (pos (2 * (d * d)) *ℤ squared x +ℤ pos (2 * (e * e)) *ℤ squared v)
doubled d e x v =
    let h = squared_difference (pos d *ℤ x) (pos e *ℤ v) in
    let p : pos 2 *ℤ squared (pos d *ℤ x) ≡ pos (2 * (d * d)) *ℤ squared x =
    same_value (num (pos 2) ⊗ ((num (pos d) ⊗ num x) ⊗ (num (pos d) ⊗ num x)))
    (num (pos (2 * (d * d))) ⊗ (num x ⊗ num x)) (omega arith) in
    let q : pos 2 *ℤ squared (pos e *ℤ v) ≡ pos (2 * (e * e)) *ℤ squared v =
    same_value (num (pos 2) ⊗ ((num (pos e) ⊗ num v) ⊗ (num (pos e) ⊗ num v)))
    (num (pos (2 * (e * e))) ⊗ (num v ⊗ num v)) (omega arith) in
    omega (arith, ints)

twice : (k : ℕ) (q : ℤ) → pos (2 * k) *ℤ q ≡ pos k *ℤ q +ℤ pos k *ℤ q
twice k q = same_value (num (pos (2 * k)) ⊗ num q) (num (pos k) ⊗ num q ⊕ num (pos k) ⊗ num q)
    (omega arith)

size : (n d e : ℕ) → n ≤ MOST_ROWS → (e * e) * (n
    * ((LARGEST_RESIDUAL_LIMIT * d) * (LARGEST_RESIDUAL_LIMIT * d))) * 4
    ≤ (MOST_CHANGE * (d * e)) * (MOST_CHANGE * (d * e))
size n d e h =
    let k : n * ((d * d) * (e * e)) ≤ MOST_ROWS * ((d * d) * (e * e)) =
    mul-le-mul h (omega arith) in
    omega arith

-- v and w are the residuals of this choice over d and of the other over e, element by element.
module _ {X : Type 0} (d e limit : ℕ) (v w : X → ℤ) (xs : List X)
    (few : length xs ≤ MOST_ROWS) (limit_in : limit ≤ LARGEST_RESIDUAL_LIMIT)
    (limited : AllByRecursion (λ x. IsWithin (pos (limit * d)) (v x)) xs) where
  abbrev change : X → ℤ
  change x = pos d *ℤ w x -ℤ pos e *ℤ v x

  sum_in : int_sum_by (λ x. squared (v x)) xs
      ≤ℤ pos (length xs * ((LARGEST_RESIDUAL_LIMIT * d) * (LARGEST_RESIDUAL_LIMIT * d)))
  sum_in = int_sum_by-at_most (λ x. squared (v x))
      ((LARGEST_RESIDUAL_LIMIT * d) * (LARGEST_RESIDUAL_LIMIT * d)) xs
      (AllByRecursion-map (λ x. IsWithin (pos (limit * d)) (v x))
      (λ x. squared (v x) ≤ℤ pos ((LARGEST_RESIDUAL_LIMIT * d) * (LARGEST_RESIDUAL_LIMIT * d)))
      (λ x h. within_squared (LARGEST_RESIDUAL_LIMIT * d) (v x)
      (within_more (limit * d) (LARGEST_RESIDUAL_LIMIT * d) (v x)
      (mul-le-mul limit_in (omega arith)) h)) xs limited)

  -- Where the other sum of squares is not larger, no residual changes by more than the bound.
  pub changes_in : (pos (d * d) *ℤ int_sum_by (λ x. squared (w x)) xs)
      ≤ℤ (pos (e * e) *ℤ int_sum_by (λ x. squared (v x)) xs)
      → AllByRecursion (λ x. IsWithin (pos (MOST_CHANGE * (d * e))) (pos d *ℤ w x -ℤ pos e *ℤ v x))
      xs
  changes_in h =
      let total = int_sum_by-below (λ x. squared (change x))
      (λ x. pos (2 * (d * d)) *ℤ squared (w x) +ℤ pos (2 * (e * e)) *ℤ squared (v x))
      (λ x. doubled d e (w x) (v x)) xs in
      let parts = int_sum_by-add (λ x. pos (2 * (d * d)) *ℤ squared (w x))
      (λ x. pos (2 * (e * e)) *ℤ squared (v x)) xs in
      let one = int_sum_by-scale (pos (2 * (d * d))) (λ x. squared (w x)) xs in
      let two = int_sum_by-scale (pos (2 * (e * e))) (λ x. squared (v x)) xs in
      let three = twice (d * d) (int_sum_by (λ x. squared (w x)) xs) in
      let four = twice (e * e) (int_sum_by (λ x. squared (v x)) xs) in
      let five = scale_at_most (e * e) (length xs
      * ((LARGEST_RESIDUAL_LIMIT * d) * (LARGEST_RESIDUAL_LIMIT * d)))
      (int_sum_by (λ x. squared (v x)) xs) sum_in in
      let six = size (length xs) d e few in
      let all : int_sum_by (λ x. squared (change x)) xs
      ≤ℤ pos ((MOST_CHANGE * (d * e)) * (MOST_CHANGE * (d * e))) = omega (arith, ints) in
      AllByRecursion-map (λ x. squared (change x)
      ≤ℤ pos ((MOST_CHANGE * (d * e)) * (MOST_CHANGE * (d * e))))
      (λ x. IsWithin (pos (MOST_CHANGE * (d * e))) (change x))
      (λ x. squared_within (MOST_CHANGE * (d * e)) (change x)) xs
      (each-at_most (λ x. squared (change x)) (λ x. squared-not_negative (change x))
      (pos ((MOST_CHANGE * (d * e)) * (MOST_CHANGE * (d * e)))) xs all)
