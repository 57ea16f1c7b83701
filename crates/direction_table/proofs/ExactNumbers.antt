-- What is read of a number is the number rounded down to its ninth decimal.
use Rattle.std.proofs.Common.{◌≡◌, ◌⊎◌, ◌∙◌, ℕ, ◌+◌, ◌-◌, ◌*◌, ◌≤◌, ◌<◌, ◌/◌, ◌%◌, ◌^◌, ◌==◌}
use Rattle.std.proofs.Common.{true, List, [], ◌∷◌, ◌++◌, length, take, drop, refl, ap}
use Rattle.std.proofs.Common.{sym, arith, inl, inr, length-append, take-append-drop}
use Rattle.std.specs.Prelude.{nat_le}
use Rattle.std.specs.Char.{digit_value, is_ascii_digit}
use Rattle.std.specs.List.{list_all}
use Rattle.std.specs.Str.Parse.{digits_value, digits_value_after}
use Rattle.std.proofs.Math.Nat.{mod-lt, mul-le-mul, mul-le-mul_right, one-le-pow, pow-suc}
use Rattle.std.proofs.lemmas.Bool.{and_parts, cases_Bool, cases_lt}
use Rattle.std.proofs.lemmas.Bool.Decides.{nat_tests}
use Rattle.std.proofs.lemmas.List.{drop_all, length-take-le, take_all}
use Rattle.std.proofs.lemmas.Nat.{pow-add}
use Rattle.std.proofs.lemmas.Str.Parse.{digits_value_short}
use Rattle.sheet_format.proofs.CanonicalDecimals.{numerals}
use Rattle.sheet_format.specs.Numbers.{zero_digit}
use Rattle.direction_table.specs.DecimalNumbers.{decimals_part, is_shifted, is_shifted_whole}
use Rattle.direction_table.specs.DecimalNumbers.{is_whole, shifted_value, whole_part}
use Rattle.direction_table.specs.Degrees.{are_seconds, are_whole_seconds, seconds_value}
use Rattle.direction_table.specs.ExactNumbers.{IsRoundedDown, IsWholeNumber, all_digits}
use Rattle.direction_table.specs.ExactNumbers.{written_number, plain_number, scaled_number, tens}
use Rattle.direction_table.specs.Gons.{are_power, exponent, has_exponent, is_scaled, is_scaled_whole}
use Rattle.direction_table.specs.Gons.{is_size, is_whole_size, mantissa, scaled_value, size_value}

after-append : (n : ℕ) (xs ys : List ℕ) → digits_value_after 10 n (xs ++ ys)
    ≡ digits_value_after 10 (digits_value_after 10 n xs) ys
after-append n [] ys = refl
after-append n (x ∷ xs) ys = after-append (n * 10 + digit_value x) xs ys

after-is : (n : ℕ) (ys : List ℕ)
    → digits_value_after 10 n ys ≡ n * 10 ^ length ys + digits_value 10 ys
after-is n [] = omega arith
after-is n (c ∷ cs) =
    let d = digit_value c in
    let more = after-is (n * 10 + d) cs in
    let own = after-is (0 * 10 + d) cs in
    rw (pow-suc 10 (length cs)) (omega (arith, more, own))

-- The number of digits that stand after others.
value-append : (xs ys : List ℕ)
    → digits_value 10 (xs ++ ys) ≡ digits_value 10 xs * 10 ^ length ys + digits_value 10 ys
value-append xs ys = after-append 0 xs ys ∙ after-is (digits_value 10 xs) ys

value-below : (ds : List ℕ) → list_all is_ascii_digit ds ≡ true → digits_value 10 ds < 10 ^ length ds
value-below ds all = digits_value_short numerals ds (length ds) all (omega arith)

is-zero : (c : ℕ) → (c == zero_digit) ≡ true → c ≡ 48
is-zero c e = grind (arith, nat_tests)

is-none : (n : ℕ) → (n == 0) ≡ true → n ≡ 0
is-none n e = grind (arith, nat_tests)

zeros-value : (ds : List ℕ) → list_all (λ d. d == zero_digit) ds ≡ true → digits_value 10 ds ≡ 0
zeros-value [] all = refl
zeros-value (c ∷ cs) all =
    let p = and_parts _ _ all in
    rw (is-zero c p.0) (zeros-value cs p.1)

-- The digits of a number, by those before its point, those that are passed, those that count and
-- those that are left out, with the powers of ten of their places.
scaled : (w a b r x y z p q s t : ℕ) → s ≡ p * x → t ≡ q * y → (p ≡ 1) ⊎ (b ≡ 0)
    → (w * (x * (y * z)) + (a * (y * z) + (b * z + r))) * (s * t)
    ≡ ((w * s + a * p) * t + b * q) * (x * (y * z)) + r * (s * t)
scaled w a b r x y z p q s t e f (inl one) = rw (e, f, one) (omega arith)
scaled w a b r x y z p q s t e f (inr none) = rw (e, f, none) (omega arith)

some : (n : ℕ) → 1 ≤ 10 ^ n
some n = one-le-pow n 10 (omega arith)

length-take-most : (n : ℕ) (ds : List ℕ) → length (take n ds) ≤ n
length-take-most n ds = elim (cases_lt (length ds) n) [
  | inl fewer ↦ rw (take_all n ds (omega (arith, fewer))) (omega (arith, fewer))
  | inr enough ↦ omega (arith, length-take-le n ds enough)
]

-- A power of ten is that of the digits that are there, times that of those that aren't.
room : (most : ℕ) (ds : List ℕ) → length ds ≤ most → 10 ^ most ≡ 10 ^ (most - length ds) * 10 ^ length ds
room most ds few =
    let parts : most - length ds + length ds ≡ most = omega (arith, few) in
    sym (ap (λ n. 10 ^ n) parts) ∙ pow-add 10 (most - length ds) (length ds)

module _ (shift : ℕ) (whole decimals : List ℕ)
    (digits : list_all is_ascii_digit (drop 9 (drop shift decimals)) ≡ true) where
  abbrev passed : List ℕ
  passed = take shift decimals

  abbrev counted : List ℕ
  counted = take 9 (drop shift decimals)

  abbrev left : List ℕ
  left = drop 9 (drop shift decimals)

  abbrev read : ℕ
  read =
      (digits_value 10 whole * 10 ^ shift
      + digits_value 10 passed * 10 ^ (shift - length passed)) * 10 ^ 9
      + digits_value 10 counted * 10 ^ (9 - length counted)

  abbrev all : ℕ
  all = digits_value 10 (whole ++ decimals)

  abbrev places : ℕ
  places = 10 ^ length passed * (10 ^ length counted * 10 ^ length left)

  -- The decimals are these three.
  three : passed ++ (counted ++ left) ≡ decimals
  three = ap (λ (rest : List ℕ). passed ++ rest) (take-append-drop 9 (drop shift decimals))
      ∙ take-append-drop shift decimals

  as-parts : (ds : List ℕ) → passed ++ (counted ++ left) ≡ ds
      → (digits_value 10 ds ≡ digits_value 10 passed * (10 ^ length counted * 10 ^ length left)
      + (digits_value 10 counted * 10 ^ length left + digits_value 10 left))
      × (10 ^ length ds ≡ places)
  as-parts ds e =
      let inner = value-append counted left in
      let outer = value-append passed (counted ++ left) in
      let behind = length-append counted left in
      let size = length-append passed (counted ++ left) in
      let tail : 10 ^ length (counted ++ left) ≡ 10 ^ length counted * 10 ^ length left =
      ap (λ n. 10 ^ n) behind ∙ pow-add 10 (length counted) (length left) in
      let full : 10 ^ length (passed ++ (counted ++ left)) ≡ places =
      ap (λ n. 10 ^ n) size ∙ pow-add 10 (length passed) (length (counted ++ left))
      ∙ ap (λ n. 10 ^ length passed * n) tail in (
        ap (digits_value 10) (sym e) ∙ outer
            ∙ ap (λ n. digits_value 10 passed * n + digits_value 10 (counted ++ left)) tail
            ∙ ap (λ n. digits_value 10 passed * (10 ^ length counted * 10 ^ length left) + n) inner,
        ap (λ (l : List ℕ). 10 ^ length l) (sym e) ∙ full,
      )

  all-is : all ≡ digits_value 10 whole * places
      + (digits_value 10 passed * (10 ^ length counted * 10 ^ length left)
      + (digits_value 10 counted * 10 ^ length left + digits_value 10 left))
  all-is =
      let p = as-parts decimals three in
      value-append whole decimals
      ∙ ap (λ n. digits_value 10 whole * n + digits_value 10 decimals) p.1
      ∙ ap (λ n. digits_value 10 whole * places + n) p.0

  -- Either so many decimals are there that all that are passed are, or none counts.
  either : ((10 ^ (shift - length passed) ≡ 1) × (length passed ≡ shift)) ⊎ (drop shift decimals ≡ [])
  either = elim (cases_lt (length decimals) shift) [
    | inl fewer ↦ inr (drop_all shift decimals (omega (arith, fewer)))
    | inr enough ↦
        let size : length passed ≡ shift = length-take-le shift decimals enough in
        let none : shift - length passed ≡ 0 = omega (arith, size) in
        inl (ap (λ n. 10 ^ n) none, size)
  ]

  nothing-counts : drop shift decimals ≡ [] → digits_value 10 counted ≡ 0
  nothing-counts e = ap (λ (l : List ℕ). digits_value 10 (take 9 l)) e

  one-or-none : (10 ^ (shift - length passed) ≡ 1) ⊎ (digits_value 10 counted ≡ 0)
  one-or-none = elim either [ inl p ↦ inl p.0 | inr e ↦ inr (nothing-counts e) ]

  few-passed : length passed ≤ shift
  few-passed = length-take-most shift decimals

  few-counted : length counted ≤ 9
  few-counted = length-take-most 9 (drop shift decimals)

  -- What is read, and what is left out.
  split : all * (10 ^ shift * 10 ^ 9)
      ≡ read * places + digits_value 10 left * (10 ^ shift * 10 ^ 9)
  split =
      ap (λ n. n * (10 ^ shift * 10 ^ 9)) all-is
      ∙ scaled (digits_value 10 whole) (digits_value 10 passed) (digits_value 10 counted)
      (digits_value 10 left) (10 ^ length passed) (10 ^ length counted) (10 ^ length left)
      (10 ^ (shift - length passed)) (10 ^ (9 - length counted)) (10 ^ shift) (10 ^ 9)
      (room shift passed few-passed) (room 9 counted few-counted) one-or-none

  -- That is less than a unit.
  small : digits_value 10 left * (10 ^ shift * 10 ^ 9) < places
  small = elim (cases_lt 9 (length (drop shift decimals))) [
    | inl more ↦
        let here : (drop shift decimals ≡ []) → ⊥ = λ e.
        omega (arith, more, ap (λ (l : List ℕ). length l) e) in
        elim either [
          | inr e ↦ absurd (here e)
          | inl p ↦
              let size : length counted ≡ 9 =
              length-take-le 9 (drop shift decimals) (omega (arith, more)) in
              let below = value-below left digits in
              let unit = mul-le-mul_right (10 ^ shift * 10 ^ 9) below in
              let one = some shift in
              rw (p.1, size) (omega (arith, unit, one))
        ]
    | inr few ↦
        let none : left ≡ [] = drop_all 9 (drop shift decimals) few in
        let zero = ap (digits_value 10) none in
        let positive = mul-le-mul (some (length passed))
        (mul-le-mul (some (length counted)) (some (length left))) in
        rw zero (omega (arith, positive))
  ]

  pub read-down : (read * 10 ^ length decimals ≤ all * (10 ^ shift * 10 ^ 9))
      × (all * (10 ^ shift * 10 ^ 9) < (read + 1) * 10 ^ length decimals)
  read-down =
      let size = (as-parts decimals three).1 in
      rw size (omega (arith, split), omega (arith, split, small))

  pub read-whole : list_all (λ d. d == zero_digit) left ≡ true
      → all * (10 ^ shift * 10 ^ 9) ≡ read * 10 ^ length decimals
  read-whole zeros =
      let size = (as-parts decimals three).1 in
      let none = zeros-value left zeros in
      rw size (rw none at split ∙ omega arith)

-- A mantissa with its point moved.
module _ (shift : ℕ) (bytes : List ℕ) (is : is_shifted shift bytes ≡ true) where
  counted-digits : list_all is_ascii_digit (drop 9 (drop shift (decimals_part bytes))) ≡ true
  counted-digits =
      let decimals = decimals_part bytes in
      let rest = (and_parts (nat_le 1 (length (whole_part bytes) + length decimals)) _ is).1 in
      let others = (and_parts (is_whole (3 - shift) (whole_part bytes)) _ rest).1 in
      let last = (and_parts (list_all is_ascii_digit (take shift decimals)) _ others).1 in
      (and_parts (list_all is_ascii_digit (take 9 (drop shift decimals))) _ last).1

  shifted-down : (shifted_value shift bytes * tens bytes ≤ all_digits bytes * (10 ^ shift * 10 ^ 9))
      × (all_digits bytes * (10 ^ shift * 10 ^ 9) < (shifted_value shift bytes + 1) * tens bytes)
  shifted-down = read-down shift (whole_part bytes) (decimals_part bytes) counted-digits

  shifted-whole : is_shifted_whole shift bytes ≡ true
      → all_digits bytes * (10 ^ shift * 10 ^ 9) ≡ shifted_value shift bytes * tens bytes
  shifted-whole zeros =
      read-whole shift (whole_part bytes) (decimals_part bytes) counted-digits zeros

-- A number that was rounded down, divided and rounded down again, is the quotient rounded down.
divided-down : (v n d p : ℕ) → 1 ≤ p → v * d ≤ n → n < (v + 1) * d
    → (v / p * (d * p) ≤ n) × (n < (v / p + 1) * (d * p))
divided-down v n d p positive low high =
    let parts : p * (v / p) + v % p ≡ v = omega arith in
    let left : v % p < p = mod-lt v positive in
    let within : p * (v / p) ≤ v = omega (arith, parts) in
    let beyond : v + 1 ≤ p * (v / p) + p = omega (arith, parts, left) in
    let down = mul-le-mul_right d within in
    let up = mul-le-mul_right d beyond in
    (omega (arith, down, low), omega (arith, up, high))

divided-whole : (v n d p : ℕ) → 1 ≤ p → n ≡ v * d → v % p ≡ 0 → n ≡ v / p * (d * p)
divided-whole v n d p positive is none =
    let parts : p * (v / p) + v % p ≡ v = omega arith in
    let whole : p * (v / p) ≡ v = omega (arith, parts, none) in
    let times = ap (λ k. k * d) whole in
    omega (arith, times, is)

-- A mantissa with an exponent.
scaled-down : (bytes after : List ℕ) → is_scaled bytes after ≡ true
    → IsRoundedDown (10 ^ 9) (scaled_number bytes after) (scaled_value bytes after)
scaled-down bytes [] e = cc e
scaled-down bytes (sign ∷ digits) e = elim (cases_Bool (sign == 45)) [
  | inl minus ↦
      let down = shifted-down 0 bytes (and_parts (are_power digits) _ (rw minus at e)).1 in
      let both = divided-down (shifted_value 0 bytes) (all_digits bytes * 10 ^ 9) (tens bytes)
      (10 ^ digits_value 10 digits) (some (digits_value 10 digits)) (omega (arith, down.0))
      (omega (arith, down.1)) in
      rw minus (record { not_above = both.0; less_left = both.1 })
  | inr other ↦
      let signed = (and_parts (are_power digits) _ (rw other at e)).1 in
      let rest = (and_parts (sign == 43) _ signed).1 in
      let down = shifted-down (digits_value 10 digits) bytes (and_parts (nat_le (digits_value 10 digits) 2) _ rest).1 in
      rw other (record { not_above = omega (arith, down.0); less_left = omega (arith, down.1) })
]

scaled-whole : (bytes after : List ℕ) → is_scaled bytes after ≡ true
    → is_scaled_whole bytes after ≡ true
    → IsWholeNumber (10 ^ 9) (scaled_number bytes after) (scaled_value bytes after)
scaled-whole bytes [] e w = cc e
scaled-whole bytes (sign ∷ digits) e w = elim (cases_Bool (sign == 45)) [
  | inl minus ↦
      let both = and_parts (is_shifted_whole 0 bytes) _ (rw minus at w) in
      let is = shifted-whole 0 bytes (and_parts (are_power digits) _ (rw minus at e)).1
      both.0 in
      rw minus (divided-whole (shifted_value 0 bytes) (all_digits bytes * 10 ^ 9) (tens bytes)
      (10 ^ digits_value 10 digits) (some (digits_value 10 digits)) (omega (arith, is))
      (is-none _ both.1))
  | inr other ↦
      let signed = (and_parts (are_power digits) _ (rw other at e)).1 in
      let rest = (and_parts (sign == 43) _ signed).1 in
      let is = shifted-whole (digits_value 10 digits) bytes (and_parts (nat_le (digits_value 10 digits) 2) _ rest).1
      (rw other at w) in
      rw other (omega (arith, is))
]

-- What is read of a number is the number rounded down.
pub size-down : (bytes : List ℕ) → is_size bytes ≡ true
    → IsRoundedDown (10 ^ 9) (written_number bytes) (size_value bytes)
size-down bytes e = elim (cases_Bool (has_exponent bytes)) [
  | inl with ↦ rw with (scaled-down (mantissa bytes) (exponent bytes) (rw with at e))
  | inr without ↦
      let down = shifted-down 0 bytes (rw without at e) in
      rw without (record { not_above = omega (arith, down.0); less_left = omega (arith, down.1) })
]

-- Where nothing is left out it is the number.
pub size-whole : (bytes : List ℕ) → is_size bytes ≡ true → is_whole_size bytes ≡ true
    → IsWholeNumber (10 ^ 9) (written_number bytes) (size_value bytes)
size-whole bytes e w = elim (cases_Bool (has_exponent bytes)) [
  | inl with ↦
      rw with (scaled-whole (mantissa bytes) (exponent bytes) (rw with at e) (rw with at w))
  | inr without ↦
      let is = shifted-whole 0 bytes (rw without at e) (rw without at w) in
      rw without (omega (arith, is))
]

-- Seconds are divided by 40 once more.
pub seconds-down : (bytes : List ℕ) → are_seconds bytes ≡ true
    → IsRoundedDown 25_000_000 (plain_number bytes) (seconds_value bytes)
seconds-down bytes e =
    let down = shifted-down 0 bytes (and_parts (is_shifted 0 bytes) _ e).0 in
    let both = divided-down (shifted_value 0 bytes) (all_digits bytes * 10 ^ 9) (tens bytes) 40
    (omega arith) (omega (arith, down.0)) (omega (arith, down.1)) in
    record { not_above = omega (arith, both.0); less_left = omega (arith, both.1) }

pub seconds-whole : (bytes : List ℕ) → are_seconds bytes ≡ true → are_whole_seconds bytes ≡ true
    → IsWholeNumber 25_000_000 (plain_number bytes) (seconds_value bytes)
seconds-whole bytes e w =
    let both = and_parts (is_shifted_whole 0 bytes) _ w in
    let is = shifted-whole 0 bytes (and_parts (is_shifted 0 bytes) _ e).0 both.0 in
    let parts = divided-whole (shifted_value 0 bytes) (all_digits bytes * 10 ^ 9) (tens bytes) 40
    (omega arith) (omega (arith, is)) (is-none _ both.1) in
    omega (arith, parts)
