-- Products of sums, multiplied out: then `omega` knows equations and orders of polynomials.
use Rattle.std.proofs.Common.{◌≡◌, ℕ, zero, suc, ◌*◌, ℤ, pos, negsuc, ◌+ℤ◌, neg_ℤ, ◌<ℤ◌, arith}
use Rattle.std.proofs.Common.{refl}
use Rattle.std.proofs.Math.IntN.{◌*ℤ◌}
use Rattle.std.proofs.Math.Nat.{mul-le-mul_left}
use Rattle.std.proofs.lemmas.Int.{ints, unsigned_abs-mul}
use Rattle.adjust_kernel.specs.Within.{IsWithin}
use Rattle.adjust_kernel.proofs.GreatestLaws.{size_within, within_size}
use Rattle.adjust_kernel.proofs.Ring.{num, ◌⊕◌, ◌⊗◌, same_value}

pub times-sum : (x y z : ℤ) → x *ℤ (y +ℤ z) ≡ x *ℤ y +ℤ x *ℤ z
times-sum x y z = same_value (num x ⊗ (num y ⊕ num z)) (num x ⊗ num y ⊕ num x ⊗ num z) (omega arith)

pub times-neg : (x y : ℤ) → x *ℤ neg_ℤ y ≡ neg_ℤ (x *ℤ y)
times-neg x y = grind (arith, ints)

pub times-times : (d e : ℕ) (z : ℤ) → pos d *ℤ (pos e *ℤ z) ≡ pos (d * e) *ℤ z
times-times d e z =
    same_value (num (pos d) ⊗ (num (pos e) ⊗ num z)) (num (pos (d * e)) ⊗ num z) (omega arith)

pub times-once : (z : ℤ) → pos 1 *ℤ z ≡ z
times-once z = omega (arith, ints)

pub ruleset products = (times-once, times-sum, times-neg, times-times)

-- A multiple that is smaller in size than once is none.
pub none_of : (w : ℕ) (z : ℤ) → neg_ℤ (pos w) <ℤ (pos w *ℤ z) → (pos w *ℤ z) <ℤ pos w → z ≡ pos 0
none_of w (pos zero) low high = refl
none_of w (pos (suc n)) low high = absurd (omega (arith, ints))
none_of w (negsuc n) low high = absurd (omega (arith, ints))

-- A number within a bound, some times.
pub times_within : (k m : ℕ) (z : ℤ) → IsWithin (pos m) z → IsWithin (pos (k * m)) (pos k *ℤ z)
times_within k m z h =
    within_size (k * m) (pos k *ℤ z) (λ above. omega (
      arith,
      above,
      unsigned_abs-mul (pos k) z,
      mul-le-mul_left k (size_within m z h),
    ))
