-- Numbers that fit, read digit by digit, and numbers read in two parts.
use Rattle.std.proofs.Common.{◌≡◌, ℕ, zero, suc, ◌+◌, ◌-◌, ◌*◌, ◌^◌, ◌<◌, ◌≤◌, ◌∙◌, ap, sym}
use Rattle.std.proofs.Common.{subst, arith, List, [], ◌∷◌, length, take, drop, length-drop}
use Rattle.std.specs.Prelude.{fold}
use Rattle.std.proofs.Math.Nat.{pow-suc}
use Rattle.std.proofs.lemmas.List.{take-append-drop}
use Rattle.std.proofs.lemmas.List.Sums.{fold-append}
use Rattle.gsi_word.specs.Angles.{decimal_value}

-- Fewer digits write no greater numbers.
power_below : (i k : ℕ) → 10 ^ i ≤ 10 ^ (i + k)
power_below i zero = let e : i ≡ i + 0 = omega arith in
    subst (λ (n : ℕ). 10 ^ i ≤ 10 ^ n) e (omega arith)
power_below i (suc k) =
    let e : suc (i + k) ≡ i + suc k = omega arith in
    subst (λ (n : ℕ). 10 ^ i ≤ 10 ^ n) e (omega (arith, power_below i k, pow-suc 10 (i + k)))

-- A number of at most 15 digits is below 10^15.
pub below_fifteen : (i n : ℕ) → i ≤ 15 → n < 10 ^ i → n < 1000000000000000
below_fifteen i n le lt =
    let e : i + (15 - i) ≡ 15 = omega arith in
    let most : 10 ^ (i + (15 - i)) ≡ 1000000000000000 = ap (λ (k : ℕ). 10 ^ k) e in
    omega (arith, lt, power_below i (15 - i), most)

-- A digit is read into the number of those before it.
abbrev read_into : ℕ → ℕ → ℕ
read_into number digit = 10 * number + (digit - 48)

-- Digits that come after a number move it by as many places.
digits_after : (n : ℕ) (digits : List ℕ)
    → fold read_into n digits ≡ n * 10 ^ length digits + decimal_value digits
digits_after n [] = omega arith
digits_after n (b ∷ digits) =
    let here : fold read_into n (b ∷ digits)
    ≡ (10 * n + (b - 48)) * 10 ^ length digits + decimal_value digits =
    digits_after (10 * n + (b - 48)) digits in
    let alone : decimal_value (b ∷ digits)
    ≡ (10 * 0 + (b - 48)) * 10 ^ length digits + decimal_value digits =
    digits_after (10 * 0 + (b - 48)) digits in
    let places : 10 ^ length (b ∷ digits) ≡ 10 ^ length digits * 10 = pow-suc 10 (length digits) in
    omega (arith, here, alone, ap (λ (k : ℕ). n * k) places)

-- The number of sixteen digits: what the first eight write, moved by eight places, and what the
-- last eight write.
pub value_in_halves : (digits : List ℕ) → length digits ≡ 16
    → decimal_value digits
    ≡ decimal_value (take 8 digits) * 100000000 + decimal_value (drop 8 digits)
value_in_halves digits sixteen =
    let eight : length (drop 8 digits) ≡ 8 = omega (arith, length-drop 8 digits) in
    let places : 10 ^ length (drop 8 digits) ≡ 100000000 = ap (λ (k : ℕ). 10 ^ k) eight in
    ap decimal_value (sym (take-append-drop 8 digits))
    ∙ fold-append read_into 0 (take 8 digits) (drop 8 digits)
    ∙ digits_after (decimal_value (take 8 digits)) (drop 8 digits)
    ∙ ap (λ (k : ℕ). decimal_value (take 8 digits) * k + decimal_value (drop 8 digits)) places
