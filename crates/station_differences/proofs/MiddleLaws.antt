-- Ways from the middle of an arc, rounded.
use Rattle.std.proofs.Common.{◌≡◌, ℕ, zero, suc, ◌+◌, ◌*◌, ◌≤◌, ◌<◌, ◌<ℤ◌, ℤ, pos}
use Rattle.std.proofs.Common.{negsuc, neg_ℤ, arith, refl}
use Rattle.std.proofs.Math.IntN.{◌*ℤ◌, ◌-ℤ◌}
use Rattle.std.proofs.Math.Nat.{le_of_mul-le-mul_left, lt_of_mul-lt-mul_left, mul-le-mul_left}
use Rattle.std.proofs.Math.Nat.{mul-lt-mul_of_pos_left}
use Rattle.std.proofs.lemmas.Int.{ints}
use native.Mathlib.Decide.{dec_le}
use Rattle.adjust_kernel.specs.Within.{IsWithin}
use Rattle.adjust_kernel.proofs.Ring.{num, ◌⊖◌, ◌⊗◌, same_value}
use Rattle.station_differences.specs.Differences.{IsRoundedFromMiddle}

units_of : (d a : ℕ) → pos 2 *ℤ (pos d *ℤ (pos 81_000 *ℤ pos a)) ≡ pos (162_000 * (d * a))
units_of d a =
    same_value (num (pos 2) ⊗ (num (pos d) ⊗ (num (pos 81_000) ⊗ num (pos a))))
    (num (pos (162_000 * (d * a)))) (omega arith)

units_below_0 : (d n : ℕ)
    → pos 2 *ℤ (pos d *ℤ (pos 81_000 *ℤ negsuc n)) ≡ pos 0 -ℤ pos (162_000 * (d * suc n))
units_below_0 d n =
    same_value (num (pos 2) ⊗ (num (pos d) ⊗ (num (pos 81_000) ⊗ num (negsuc n))))
    (num (pos 0) ⊖ num (pos (162_000 * (d * suc n)))) (omega arith)

lifted_units : (d n : ℕ)
    → pos 2 *ℤ (pos d *ℤ (pos 81_000 *ℤ (pos n -ℤ pos 200_000_000)))
    ≡ pos (162_000 * (d * n)) -ℤ pos (32_400_000_000_000 * d)
lifted_units d n =
    same_value
    (num (pos 2) ⊗ (num (pos d) ⊗ (num (pos 81_000) ⊗ (num (pos n) ⊖ num (pos 200_000_000)))))
    (num (pos (162_000 * (d * n))) ⊖ num (pos (32_400_000_000_000 * d))) (omega arith)

-- The quotient is the way from the middle, rounded and lifted by half a circle.
pub rounded_is : (d way spread n twice : ℕ)
    → twice + spread ≡ 2 * way + d * 32_400_000_081_000
    → d * 162_000 * n ≤ twice → twice < d * 162_000 * (n + 1)
    → IsRoundedFromMiddle d way spread (pos n -ℤ pos 200_000_000)
rounded_is d way spread n twice sum from to =
    let e = lifted_units d n in
    record { low = omega (arith, ints, e, sum, to); high = omega (arith, ints, e, sum, from) }

-- The same bounds in natural numbers, over the other denominator.
high_too : (d e way its spread s a b : ℕ) → 1 ≤ d → d * its ≡ e * way → d * s ≡ e * spread
    → 162_000 * (d * a) + spread ≤ 2 * way + 81_000 * d + 162_000 * (d * b)
    → 162_000 * (e * a) + s ≤ 2 * its + 81_000 * e + 162_000 * (e * b)
high_too d e way its spread s a b some same same_spread h =
    let more : e * (162_000 * (d * a) + spread) ≤ e * (2 * way + 81_000 * d + 162_000 * (d * b)) =
    mul-le-mul_left e h in
    let scaled : d * (162_000 * (e * a) + s) ≤ d * (2 * its + 81_000 * e + 162_000 * (e * b)) =
    omega (arith, more, same, same_spread) in
    le_of_mul-le-mul_left scaled some

low_too : (d e way its spread s a b : ℕ) → 1 ≤ e → d * its ≡ e * way → d * s ≡ e * spread
    → 2 * way + 162_000 * (d * b) < 162_000 * (d * a) + spread + 81_000 * d
    → 2 * its + 162_000 * (e * b) < 162_000 * (e * a) + s + 81_000 * e
low_too d e way its spread s a b others same same_spread h =
    let more : e * (2 * way + 162_000 * (d * b)) < e * (162_000 * (d * a) + spread + 81_000 * d) =
    mul-lt-mul_of_pos_left h others in
    let scaled : d * (2 * its + 162_000 * (e * b)) < d * (162_000 * (e * a) + s + 81_000 * e) =
    omega (arith, more, same, same_spread) in
    lt_of_mul-lt-mul_left d scaled

-- The same fractions of a circle are rounded to the same, whatever they are over.
pub same_rounding : (d e way its spread s : ℕ) (units : ℤ) → 1 ≤ d → 1 ≤ e → d * its ≡ e * way
    → d * s ≡ e * spread → IsRoundedFromMiddle d way spread units
    → IsRoundedFromMiddle e its s units
same_rounding d e way its spread s (pos a) some others same same_spread r =
    let p = units_of d a in
    let q = units_of e a in
    let l = r.low in
    let h = r.high in
    let low = low_too d e way its spread s a 0 others same same_spread
    (omega (arith, ints, p, l)) in
    let high = high_too d e way its spread s a 0 some same same_spread
    (omega (arith, ints, p, h)) in
    record { low = omega (arith, ints, q, low); high = omega (arith, ints, q, high) }
same_rounding d e way its spread s (negsuc n) some others same same_spread r =
    let p = units_below_0 d n in
    let q = units_below_0 e n in
    let l = r.low in
    let h = r.high in
    let low = low_too d e way its spread s 0 (suc n) others same same_spread
    (omega (arith, ints, p, l)) in
    let high = high_too d e way its spread s 0 (suc n) some same same_spread
    (omega (arith, ints, p, h)) in
    record { low = omega (arith, ints, q, low); high = omega (arith, ints, q, high) }

units_apart : (d : ℕ) (x a b : ℤ)
    → (pos 2 *ℤ (pos d *ℤ (pos 81_000 *ℤ a)) -ℤ x) -ℤ (pos 2 *ℤ (pos d *ℤ (pos 81_000 *ℤ b)) -ℤ x)
    ≡ pos (162_000 * d) *ℤ (a -ℤ b)
units_apart d x a b =
    same_value
    ((num (pos 2) ⊗ (num (pos d) ⊗ (num (pos 81_000) ⊗ num a)) ⊖ num x)
    ⊖ (num (pos 2) ⊗ (num (pos d) ⊗ (num (pos 81_000) ⊗ num b)) ⊖ num x))
    (num (pos (162_000 * d)) ⊗ (num a ⊖ num b)) (omega arith)

-- A multiple that is smaller in size than once is none.
none_of : (w : ℕ) (z : ℤ) → (neg_ℤ (pos w)) <ℤ (pos w *ℤ z) → (pos w *ℤ z) <ℤ pos w → z ≡ pos 0
none_of w (pos zero) low high = refl
none_of w (pos (suc n)) low high =
    let e : pos w *ℤ pos (suc n) ≡ pos (w + w * n) =
    same_value (num (pos w) ⊗ num (pos (suc n))) (num (pos (w + w * n))) (omega arith) in
    absurd (omega (arith, ints, e, high))
none_of w (negsuc n) low high =
    let e : pos w *ℤ negsuc n ≡ pos 0 -ℤ pos (w + w * n) =
    same_value (num (pos w) ⊗ num (negsuc n)) (num (pos 0) ⊖ num (pos (w + w * n)))
    (omega arith) in
    absurd (omega (arith, ints, e, low))

-- A way from the middle is rounded to one number.
pub one_rounding : (d way spread : ℕ) (a b : ℤ) → IsRoundedFromMiddle d way spread a
    → IsRoundedFromMiddle d way spread b → a ≡ b
one_rounding d way spread a b p q =
    let apart = units_apart d (pos 2 *ℤ pos way -ℤ pos spread) a b in
    let a_low = p.low in
    let a_high = p.high in
    let b_low = q.low in
    let b_high = q.high in
    let none : a -ℤ b ≡ pos 0 =
    none_of (162_000 * d) (a -ℤ b)
    (omega (arith, ints, apart, a_low, b_high)) (omega (arith, ints, apart, a_high, b_low)) in
    omega (arith, ints, none)

-- What is in an arc is no further from its middle than a whole number of units that half the arc is
-- no wider than.
pub within_half : (d way spread apart : ℕ) (units : ℤ) → 1 ≤ d → way ≤ spread
    → spread ≤ apart * (162_000 * d) → IsRoundedFromMiddle d way spread units
    → IsWithin (pos apart) units
within_half d way spread apart (pos a) some inside narrow r = by (dec_le a apart)
  where
    by : Dec (a ≤ apart) → IsWithin (pos apart) (pos a)
    by (yes h) = record { low = omega (arith, ints); high = omega (arith, ints, h) }
    by (no h) =
        let e = units_of d a in
        let most = r.high in
        let more : d * (apart + 1) ≤ d * a = mul-le-mul_left d (omega (arith, h)) in
        absurd (omega (arith, ints, e, most, more, inside, narrow, some))
within_half d way spread apart (negsuc n) some inside narrow r = by (dec_le (suc n) apart)
  where
    by : Dec (suc n ≤ apart) → IsWithin (pos apart) (negsuc n)
    by (yes h) = record { low = omega (arith, ints, h); high = omega (arith, ints) }
    by (no h) =
        let e = units_below_0 d n in
        let least = r.low in
        let more : d * (apart + 1) ≤ d * suc n = mul-le-mul_left d (omega (arith, h)) in
        absurd (omega (arith, ints, e, least, more, narrow, some))
