-- Products over sums and differences, and of three factors.
use Rattle.std.proofs.Common.{◌≡◌, ℕ, ◌*◌, ℤ, pos, ◌+ℤ◌, neg_ℤ, arith, ap}
use Rattle.std.proofs.Math.IntN.{◌*ℤ◌, ◌-ℤ◌}
use Rattle.std.proofs.lemmas.Int.{ints}
use borrow.Author.Differences.{up, down, sum_is_lem, neg_is, product_is}

-- A product with a sum is the sum of the products.
pub over_sum : (c a b : ℤ) → c *ℤ (a +ℤ b) ≡ c *ℤ a +ℤ c *ℤ b
over_sum c a b = let e = sum_is_lem a b in
    omega (arith, ints, ap (λ n. up c * n) e, ap (λ n. down c * n) e)

-- A product with a difference is the difference of the products.
pub over_difference : (c a b : ℤ) → c *ℤ (a -ℤ b) ≡ c *ℤ a -ℤ c *ℤ b
over_difference c a b =
    let e = over_sum c a (neg_ℤ b) in
    let (n, m) = neg_is b in
    omega (
      arith,
      ints,
      e,
      ap (λ k. up c * k) n,
      ap (λ k. up c * k) m,
      ap (λ k. down c
          * k) n,
      ap (λ k. down c * k) m,
    )

-- Two factors, one after the other, are their product.
pub three_factors : (m n : ℕ) (z : ℤ) → pos m *ℤ (pos n *ℤ z) ≡ pos (m * n) *ℤ z
three_factors m n z = let e = product_is (pos n) z in
    omega (arith, ints, ap (λ k. m * k) e.0, ap (λ k. m * k) e.1)
