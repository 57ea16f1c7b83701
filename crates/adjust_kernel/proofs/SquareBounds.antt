-- A change of each residual is small where the other sum is not greater.
use Rattle.std.proofs.Common.{◌≡◌, ℕ, suc, ◌*◌, ◌≤◌, List, [], ◌∷◌, length, ℤ, pos, negsuc, ◌+ℤ◌}
use Rattle.std.proofs.Common.{◌≤ℤ◌, arith}
use Rattle.std.proofs.Math.IntN.{◌*ℤ◌, ◌-ℤ◌}
use Rattle.std.proofs.Math.Nat.{mul-le-mul}
use Rattle.std.specs.List.{AllByRecursion}
use Rattle.std.proofs.lemmas.Int.{ints}
use Rattle.adjust_kernel.specs.Sums.{int_sum_by, squared}
use Rattle.adjust_kernel.proofs.Ring.{num, ◌⊕◌, ◌⊖◌, ◌⊗◌, same_value}
use Rattle.adjust_kernel.proofs.SumLaws.{int_sum_by-not_negative}
use Rattle.adjust_kernel.proofs.LeastLaws.{squared-not_negative}
use Rattle.adjust_kernel.specs.Within.{IsWithin}
use native.Mathlib.Decide.{dec_le}

module _ {X : Type 0} where
  -- Where each term is at most m, the sum is at most m times their number.
  pub int_sum_by-at_most : (f : X → ℤ) (m : ℕ) (xs : List X) → AllByRecursion (λ x. f x ≤ℤ pos m) xs
      → int_sum_by f xs ≤ℤ pos (length xs * m)
  int_sum_by-at_most f m [] h = omega (arith, ints)
  int_sum_by-at_most f m (x ∷ xs) h = let e = int_sum_by-at_most f m xs h.1 in let k = h.0 in
      omega (arith, ints)

  -- Where each term of a sum is at most that of another, so is the sum.
  pub int_sum_by-below : (f g : X → ℤ) → ((x : X) → f x ≤ℤ g x) → (xs : List X)
      → int_sum_by f xs ≤ℤ int_sum_by g xs
  int_sum_by-below f g h [] = omega (arith, ints)
  int_sum_by-below f g h (x ∷ xs) = let e = int_sum_by-below f g h xs in let k = h x in
      omega (arith, ints)

  -- Where no term is negative and the sum is at most m, each term is.
  pub each-at_most : (f : X → ℤ) → ((x : X) → pos 0 ≤ℤ f x) → (m : ℤ) (xs : List X)
      → int_sum_by f xs ≤ℤ m → AllByRecursion (λ x. f x ≤ℤ m) xs
  each-at_most f h m [] e = tt
  each-at_most f h m (x ∷ xs) e =
      let k = h x in
      let r = int_sum_by-not_negative f h xs in
      (omega (arith, ints), each-at_most f h m xs (omega (arith, ints)))

-- (p - q)^2 is at most 2 p^2 + 2 q^2.
pub squared_difference : (p q : ℤ) → squared (p -ℤ q) ≤ℤ (pos 2 *ℤ squared p +ℤ pos 2 *ℤ squared q)
squared_difference p q =
    let e : pos 2 *ℤ squared p +ℤ pos 2 *ℤ squared q ≡ squared (p -ℤ q) +ℤ squared (p +ℤ q) =
    same_value (num (pos 2) ⊗ (num p ⊗ num p) ⊕ num (pos 2) ⊗ (num q ⊗ num q))
    ((num p ⊖ num q) ⊗ (num p ⊖ num q) ⊕ (num p ⊕ num q) ⊗ (num p ⊕ num q)) (omega arith) in
    let h = squared-not_negative (p +ℤ q) in
    omega (arith, ints)

square_at_most : (a m : ℕ) → a ≤ m → a * a ≤ m * m
square_at_most a m h = mul-le-mul h h

-- A number of size at most m has a square of at most m times m.
pub within_squared : (m : ℕ) (z : ℤ) → IsWithin (pos m) z → squared z ≤ℤ pos (m * m)
within_squared m (pos a) h = let k = square_at_most a m (omega (arith, ints)) in omega (arith, ints)
within_squared m (negsuc a) h = let k = square_at_most (suc a) m (omega (arith, ints)) in
    omega (arith, ints)

root_below : (a m : ℕ) → a * a ≤ m * m → a ≤ m
root_below a m h = by (dec_le a m)
  where
    by : Dec (a ≤ m) → a ≤ m
    by (yes e) = e
    by (no f) = let k : suc m * suc m ≤ a * a = square_at_most (suc m) a (omega arith) in
        omega arith

-- A number whose square is at most m times m has a size of at most m.
pub squared_within : (m : ℕ) (z : ℤ) → squared z ≤ℤ pos (m * m) → IsWithin (pos m) z
squared_within m (pos a) h = let k = root_below a m (omega (arith, ints)) in
    record { low = omega (arith, ints); high = omega (arith, ints) }
squared_within m (negsuc a) h = let k = root_below (suc a) m (omega (arith, ints)) in
    record { low = omega (arith, ints); high = omega (arith, ints) }
