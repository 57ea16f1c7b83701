-- Numbers taken together: one more.
use Rattle.std.proofs.Common.{◌≡◌, ℕ, suc, ◌+◌, ◌*◌, ◌^◌, ◌≤◌, ℤ, pos, ◌+ℤ◌, ◌∙◌, arith, subst, sym}
use Rattle.std.proofs.lemmas.Int.{ints}
use Rattle.std.specs.Int.{int_max, int_min}
use Rattle.adjust_kernel.specs.Within.{IsWithin}
use Rattle.station_report.specs.Together.{AreTogether}
use Rattle.station_report.specs.declared.together.Together.{Together}

-- The sum of few numbers is within that of the most.
pub within_most : (n : ℕ) (z : ℤ) → n ≤ 4_000 → IsWithin (pos (2 ^ 31 * n)) z
    → IsWithin (pos (2 ^ 31 * 4_000)) z
within_most n z few h =
    let low = h.low in
    let high = h.high in
    record { low = omega (arith, ints, few, low); high = omega (arith, ints, few, high) }

-- Of one more, which is of 32 bits.
pub more : (n : ℕ) (number : ℕ → ℤ) (t u : Together) (z : ℤ) → AreTogether n number t
    → IsWithin (pos (2 ^ 31)) z → z ≡ number n → u.sum ≡ t.sum +ℤ z
    → u.least ≡ int_min t.least z → u.greatest ≡ int_max t.greatest z
    → AreTogether (n + 1) number u
more n number t u z so_far small is sum least greatest =
    let next : suc n ≡ n + 1 = omega arith in
    let low = so_far.bound.low in
    let high = so_far.bound.high in
    let z_low = small.low in
    let z_high = small.high in
    let bound : IsWithin (pos (2 ^ 31 * (n + 1))) u.sum = record {
      low = omega (arith, ints, sum, low, z_low);
      high = omega (arith, ints, sum, high, z_high);
    } in
    subst (λ k. AreTogether k number u) next (record {
      sum = sum ∙ (λ i. so_far.sum i +ℤ is i);
      least = least ∙ (λ i. int_min (so_far.least i) (is i));
      greatest = greatest ∙ (λ i. int_max (so_far.greatest i) (is i));
      bound = subst (λ k. IsWithin (pos (2 ^ 31 * k)) u.sum) (sym next) bound;
    })
