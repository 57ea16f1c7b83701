-- The text of a direction is read as the same number.
use Rattle.std.proofs.Common.{◌≡◌, ◌∙◌, ℕ, zero, suc, true, false, List, [], ◌∷◌, ◌++◌, length}
use Rattle.std.proofs.Common.{refl, ap, sym, arith, length-append, pos, ◌<◌, ◌≤◌, ◌+◌, ◌-◌, ◌*◌}
use Rattle.std.proofs.Common.{◌^◌, ◌/◌, ◌%◌}
use Rattle.std.proofs.Math.Arith.{mod-mul}
use Rattle.std.proofs.Math.Nat.{div-div-eq-div-mul, one-le-pow, pow-suc}
use Rattle.std.proofs.lemmas.Nat.{div-add-mod', pow-add}
use Rattle.std.specs.Char.{digit_value, is_ascii_digit}
use Rattle.std.specs.Fmt.{decimal}
use Rattle.std.specs.List.{list_all}
use Rattle.std.specs.Str.Parse.{digits_value}
use Rattle.std.proofs.lemmas.Bool.Decides.{nat_tests}
use Rattle.std.proofs.lemmas.Fmt.{decimal_is_IsNumeral, length-decimal-le}
use Rattle.std.proofs.lemmas.Int.Digits.{digits_value_push}
use Rattle.std.proofs.lemmas.List.{length_push}
use Rattle.std.proofs.lemmas.List.Folds.{list_all-append}
use Rattle.std.proofs.lemmas.Str.{digit_value_digit}
use Rattle.sheet_format.proofs.CanonicalDecimals.{numerals}
use Rattle.direction_table.specs.Directions.{direction_value, is_direction, is_on_circle}
use Rattle.direction_table.specs.PlainTables.{IsPlainDirection, after_point, plain_size}
use Rattle.direction_table.specs.Texts.{AreDecimals, IsWhole, decimals_of, direction_text}
use Rattle.direction_table.proofs.PlainDirections.{digit-range, plain-form, plain-range}
use Rattle.direction_table.proofs.PlainDirections.{plain-value}
use Rattle.direction_table.specs.declared.unit.AngleUnit.TheVariants.{Gon}

-- The last digit of a number, and what it says.
last-digit : (n : ℕ) → is_ascii_digit (48 + n % 10) ≡ true
last-digit n = grind (arith, nat_tests)

last-value : (n : ℕ) → digit_value (48 + n % 10) ≡ n % 10
last-value n =
    let value = digit_value_digit (48 + n % 10) (digit-range (48 + n % 10) (last-digit n)) in
    omega (arith, value)

-- The decimals: how many, that they are digits, and their number.
many : (k d : ℕ) → length (decimals_of k d) ≡ k
many zero d = refl
many (suc k) d = omega (arith, length_push (decimals_of k d), many k d)

all-digits : (k d : ℕ) → list_all is_ascii_digit (decimals_of k d) ≡ true
all-digits zero d = refl
all-digits (suc k) d =
    rw (
      list_all-append is_ascii_digit (decimals_of k d),
      all-digits k d,
      last-digit (d / 10 ^ (8 - k)),
    ) refl

decimals-value : (k d : ℕ) → k ≤ 8 → digits_value 10 (decimals_of k d) ≡ d / 10 ^ (9 - k) % 10 ^ k
decimals-value zero d h = omega arith
decimals-value (suc k) d h =
    let e = d / 10 ^ (8 - k) in
    let next : 9 - k ≡ suc (8 - k) = omega (arith, h) in
    let this : 9 - suc k ≡ 8 - k = omega arith in
    let before : d / 10 ^ (9 - k) ≡ e / 10 =
    rw (next, pow-suc 10 (8 - k)) (sym (div-div-eq-div-mul d (10 ^ (8 - k)) 10)) in
    digits_value_push 10 (decimals_of k d) (48 + e % 10)
    ∙ rw (decimals-value k d (omega (arith, h)), last-value e, before, this, pow-suc 10 k)
    (sym (mod-mul e (one-le-pow k 10 (omega arith)) (omega arith)))

-- A multiple of the step is its gon and its decimals.
whole : (k d : ℕ) → k ≤ 8 → d % 10 ^ (9 - k) ≡ 0
    → d / 10 ^ 9 * 10 ^ 9 + (d / 10 ^ (9 - k) % 10 ^ k) * 10 ^ (9 - k) ≡ d
whole k d h e =
    let step = 10 ^ (9 - k) in
    let steps = d / step in
    let nine : 9 - k + k ≡ 9 = omega (arith, h) in
    let all : step * 10 ^ k ≡ 10 ^ 9 = sym (pow-add 10 (9 - k) k) ∙ ap (λ n. 10 ^ n) nine in
    let gons : d / 10 ^ 9 ≡ steps / 10 ^ k =
    rw (← all) (sym (div-div-eq-div-mul d step (10 ^ k))) in
    let parts = ap (λ n. n * step) (div-add-mod' steps (10 ^ k)) in
    let scaled = ap (λ n. steps / 10 ^ k * n) all in
    rw gons (omega (arith, e, parts, scaled, div-add-mod' d step))

-- The gon of a direction below a full circle.
record Front (w : ℕ) : Type 0 where
  digits : list_all is_ascii_digit (decimal w) ≡ true
  some : 1 ≤ length (decimal w)
  short : length (decimal w) ≤ 3
  value : digits_value 10 (decimal w) ≡ w

front-of : (w : ℕ) → w < 400 → Front w
front-of w h =
    let n = decimal_is_IsNumeral w (omega (arith, h)) in
    record {
      digits = numerals.from (decimal w) n.0.1;
      some = n.0.0;
      short = length-decimal-le 3 w (omega arith) (omega (arith, h)) (omega (arith, h));
      value = n.1;
    }

after-some : (digits : List ℕ) → 1 ≤ length digits → after_point digits ≡ 46 ∷ digits
after-some [] some = absurd (omega (arith, some))
after-some (c ∷ cs) some = refl

module _ (k d : ℕ) (few : AreDecimals k) (exact : IsWhole k d) where
  front : Front (d / 10 ^ 9)
  front = let below = exact.0 in front-of (d / 10 ^ 9) (omega (arith, below))

  text-size : plain_size (decimal (d / 10 ^ 9)) (decimals_of k d) ≡ d
  text-size = let f = front in
      rw (f.value, many k d, decimals-value k d few.1) (whole k d few.1 exact.1)

  -- The text of a direction in whole steps of its decimals writes it plainly.
  pub text-plain : IsPlainDirection (direction_text k d) (pos (81 * d))
  text-plain =
      let f = front in
      let size = many k d in
      let number = text-size in
      record {
        negative = false;
        whole = decimal (d / 10 ^ 9);
        decimals = decimals_of k d;
        spelled = ap (λ (tail : List ℕ). decimal (d / 10 ^ 9) ++ tail)
            (sym (after-some (decimals_of k d) (omega (arith, size, few.0))));
        some = f.some;
        short = f.short;
        few = omega (arith, size, few.1);
        whole_digits = f.digits;
        decimal_digits = all-digits k d;
        below = omega (arith, number, exact.0);
        value = ap (λ (n : ℕ). pos (81 * n)) (sym number);
      }

  -- So it has the form of a direction, is on the circle, and is read as that direction.
  pub text-form : is_direction Gon (direction_text k d) ≡ true
  text-form = plain-form (direction_text k d) (pos (81 * d)) text-plain

  pub text-range : is_on_circle Gon (direction_text k d) ≡ true
  text-range = plain-range (direction_text k d) (pos (81 * d)) text-plain

  pub text-value : direction_value Gon (direction_text k d) ≡ pos (81 * d)
  text-value = plain-value (direction_text k d) (pos (81 * d)) text-plain

  -- The text of a direction has at most 12 bytes: three digits, a point and eight decimals.
  pub text-length : length (direction_text k d) ≤ 12
  text-length =
      let f = front in
      let long = length-append (decimal (d / 10 ^ 9)) (46 ∷ decimals_of k d) in
      omega (arith, long, f.short, many k d, few.1)
