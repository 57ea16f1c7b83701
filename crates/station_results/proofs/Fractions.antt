-- Bounds of a fraction, whatever it is over.
use Rattle.std.proofs.Common.{◌≡◌, ℕ, zero, suc, ◌+◌, ◌*◌, ◌≤◌, ◌≤ℤ◌, ◌<ℤ◌, ℤ, pos, negsuc}
use Rattle.std.proofs.Common.{neg_ℤ, arith, refl}
use Rattle.std.proofs.Math.IntN.{◌*ℤ◌, ◌-ℤ◌}
use Rattle.std.proofs.Math.Nat.{le_of_mul-le-mul_left, mul-le-mul_left, mul-le-mul_right}
use Rattle.std.proofs.lemmas.Int.{ints}
use native.Mathlib.Decide.{dec_le}
use Rattle.adjust_kernel.proofs.Ring.{num, ◌⊖◌, ◌⊗◌, same_value}

-- A product of numbers that are not negative.
product : (d n : ℕ) → pos d *ℤ pos n ≡ pos (d * n)
product d n = same_value (num (pos d) ⊗ num (pos n)) (num (pos (d * n))) (omega arith)

-- A product with a negative one.
below_0 : (d n : ℕ) → pos d *ℤ negsuc n ≡ pos 0 -ℤ pos (d * suc n)
below_0 d n =
    same_value (num (pos d) ⊗ num (negsuc n)) (num (pos 0) ⊖ num (pos (d * suc n))) (omega arith)

-- Where z over d is y over e, what bounds one bounds the other.
pub high : (d e m : ℕ) (y z : ℤ) → 1 ≤ d → pos d *ℤ y ≡ pos e *ℤ z → z ≤ℤ pos (m * d)
    → y ≤ℤ pos (m * e)
high d e m (pos y) (pos z) some is h =
    let p = product d y in
    let q = product e z in
    let more : e * z ≤ e * (m * d) = mul-le-mul_left e (omega (arith, ints, h)) in
    let less : d * y ≤ d * (m * e) = omega (arith, ints, is, p, q, more) in
    let l : y ≤ m * e = le_of_mul-le-mul_left less some in
    omega (arith, ints, l)
high d e m (pos y) (negsuc z) some is h =
    let p = product d y in
    let q = below_0 e z in
    let l : 1 * y ≤ d * y = mul-le-mul_right y some in
    omega (arith, ints, is, p, q, l)
high d e m (negsuc y) z some is h = omega (arith, ints)

pub low : (d e m : ℕ) (y z : ℤ) → 1 ≤ d → 1 ≤ e → 1 ≤ m → pos d *ℤ y ≡ pos e *ℤ z
    → neg_ℤ (pos (m * d)) <ℤ z → neg_ℤ (pos (m * e)) <ℤ y
low d e m (pos y) z some more many is h =
    let l : m * 1 ≤ m * e = mul-le-mul_left m more in
    omega (arith, ints, l, many)
low d e m (negsuc y) (pos z) some more many is h =
    let p = below_0 d y in
    let q = product e z in
    let l : 1 * suc y ≤ d * suc y = mul-le-mul_right (suc y) some in
    absurd (omega (arith, ints, is, p, q, l))
low d e m (negsuc y) (negsuc z) some more many is h = by (dec_le (m * e) (suc y))
  where
    p : pos d *ℤ negsuc y ≡ pos 0 -ℤ pos (d * suc y)
    p = below_0 d y

    q : pos e *ℤ negsuc z ≡ pos 0 -ℤ pos (e * suc z)
    q = below_0 e z

    by : Dec (m * e ≤ suc y) → neg_ℤ (pos (m * e)) <ℤ negsuc y
    by (yes l) =
        let a : d * (m * e) ≤ d * suc y = mul-le-mul_left d l in
        let b : e * (m * d) ≤ e * suc z = omega (arith, ints, is, p, q, a) in
        let c : m * d ≤ suc z = le_of_mul-le-mul_left b more in
        absurd (omega (arith, ints, h, c))
    by (no l) = omega (arith, ints, l)

-- A multiple that is smaller in size than once is none.
pub none_of : (w : ℕ) (z : ℤ) → (neg_ℤ (pos w)) <ℤ (pos w *ℤ z) → (pos w *ℤ z) <ℤ pos w
    → z ≡ pos 0
none_of w (pos zero) low high = refl
none_of w (pos (suc n)) low high =
    let p = product w (suc n) in
    let e : w * suc n ≡ w + w * n = omega arith in
    absurd (omega (arith, ints, p, e, high))
none_of w (negsuc n) low high =
    let p = below_0 w n in
    let e : w * suc n ≡ w + w * n = omega arith in
    absurd (omega (arith, ints, p, e, low))
