-- Sums as loops make them.
use Rattle.std.proofs.Common.{◌≡◌, ℕ, suc, ◌+◌, ℤ, pos, ◌+ℤ◌, arith, ap, sym, ◌∙◌}
use lib.IntN.{◌*ℤ◌}
use Rattle.std.proofs.lemmas.Int.{ints}
use Rattle.adjust_kernel.specs.Within.{IsWithin}
use Rattle.sheet_means.proofs.GridLaws.{sum_below}

-- The sum of f at the numbers below n, each within the bound.
pub record IsSumTo (f : ℕ → ℤ) (most : ℤ) (n : ℕ) (total : ℤ) : Type 0 where
  pub total_is : total ≡ sum_below n f
  pub bound : IsWithin (most *ℤ pos n) total

-- The sum with one more term within the bound is the sum of so many more.
pub sum_more : (f : ℕ → ℤ) (most : ℤ) (n : ℕ) (total : ℤ) → IsSumTo f most n total
    → IsWithin most (f n) → IsSumTo f most (n + 1) (total +ℤ f n)
sum_more f most n total s w =
    let e : most *ℤ pos (n + 1) ≡ most *ℤ pos n +ℤ most = omega (arith, ints) in
    let a = s.bound.low in let b = s.bound.high in let c = w.low in let d = w.high in
    let m : n + 1 ≡ suc n = omega arith in
    record {
      total_is = ap (λ z. z +ℤ f n) s.total_is ∙ ap (λ k. sum_below k f) (sym m);
      bound = record { low = omega (arith, ints); high = omega (arith, ints) };
    }
