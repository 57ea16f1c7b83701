-- Limbs, one more at a time.
use Rattle.std.proofs.Common.{◌≡◌, ℕ, zero, suc, ◌+◌, ◌*◌, ◌^◌, ◌<◌, ◌≤◌, List, length, get_or}
use Rattle.std.proofs.Common.{refl, ◌∙◌, arith, add-one, get_or-set_other, get_or-set_same}
use Rattle.std.specs.Prelude.{set}
use Rattle.std.proofs.Math.Nat.{mul-le-mul_right, pow-suc}
use Rattle.wide_number.specs.Limbs.{limb_weight, value_below}

pub value_below-zero : (xs : List ℕ) → value_below xs 0 ≡ 0
unfolding value_below
value_below-zero xs = refl

pub value_below-suc : (xs : List ℕ) (i : ℕ)
    → value_below xs (i + 1) ≡ value_below xs i + get_or xs i 0 * limb_weight i
unfolding value_below
value_below-suc xs i = rw add-one

pub limb_weight-suc : (i : ℕ) → limb_weight (i + 1) ≡ limb_weight i * 2 ^ 64
unfolding limb_weight
limb_weight-suc i = rw add-one (pow-suc (2 ^ 64) i)

pub value_below_same : (xs ys : List ℕ) (n : ℕ) → ((i : ℕ) → i < n → get_or xs i 0 ≡ get_or ys i 0)
    → value_below xs n ≡ value_below ys n
unfolding value_below
value_below_same xs ys zero h = refl
value_below_same xs ys (suc n) h =
    λ j. value_below_same xs ys n (λ i l. h i (omega arith)) j
    + h n (omega arith) j * limb_weight n

-- A limb is set, and those below it count as before.
pub value_below-set : (xs : List ℕ) (i v : ℕ) → i < length xs
    → value_below (set xs i v) (i + 1) ≡ value_below xs i + v * limb_weight i
value_below-set xs i v h =
    value_below-suc (set xs i v) i
    ∙ (λ j. value_below_same (set xs i v) xs i
    (λ k l. get_or-set_other xs i k v 0 (λ e. omega arith)) j
    + get_or-set_same xs i v 0 h j * limb_weight i)

pub value_below-lt : (xs : List ℕ) (n : ℕ) → ((i : ℕ) → get_or xs i 0 < 2 ^ 64)
    → value_below xs n < limb_weight n
unfolding value_below limb_weight
value_below-lt xs zero h = omega arith
value_below-lt xs (suc n) h =
    omega (
      arith,
      value_below-lt xs n h,
      pow-suc (2 ^ 64) n,
      mul-le-mul_right (limb_weight n) (h n),
    )

-- The upper limb decides.
pub value_below_less : (xs ys : List ℕ) (i : ℕ) → ((k : ℕ) → get_or xs k 0 < 2 ^ 64)
    → get_or xs i 0 < get_or ys i 0 → value_below xs (i + 1) < value_below ys (i + 1)
value_below_less xs ys i fit h =
    omega (
      arith,
      value_below-suc xs i,
      value_below-suc ys i,
      value_below-lt xs i fit,
      mul-le-mul_right (limb_weight i) h,
    )

-- What is below the next weight has no carry.
pub no_carry : (value carry w total : ℕ) → value + carry * w ≡ total → total < w → value ≡ total
no_carry value zero w total e l = omega arith
no_carry value (suc n) w total e l = absurd (omega arith)

-- Where what is taken off is no larger, nothing is borrowed.
pub no_borrow : (value off old borrow w : ℕ) → value + off ≡ old + borrow * w → value < w
    → off ≤ old
    → value + off ≡ old
no_borrow value off old zero w e l m = omega arith
no_borrow value off old (suc n) w e l m = absurd (omega arith)

-- What has a carry is not below the next weight.
pub carried : (value carry w addend product : ℕ) → value + carry * w ≡ addend + product
    → (carry ≡ 0 → ⊥) → w ≤ product + addend
carried value zero w addend product e n = absurd (n refl)
carried value (suc m) w addend product e n = omega arith
