-- Numbers of few digits, read digit by digit.
use Rattle.std.proofs.Common.{◌≡◌, ◌∙◌, ℕ, true, List, length, take, get_or, arith, ◌+◌, ◌*◌, ◌-◌}
use Rattle.std.proofs.Common.{◌<◌, ◌≤◌}
use Rattle.std.specs.Char.{is_ascii_digit}
use Rattle.std.specs.Int.{IsInRange}
use Rattle.std.specs.List.{list_all}
use Rattle.std.specs.Str.Parse.{digits_value}
use Rattle.std.proofs.lemmas.Bool.{and_from}
use Rattle.std.proofs.lemmas.Bool.Decides.{nat_tests}
use Rattle.std.proofs.lemmas.Int.Digits.{digits_value_more}
use Rattle.std.proofs.lemmas.List.{length-take-le}
use Rattle.std.proofs.lemmas.List.Folds.{list_all_more}
use Rattle.std.proofs.lemmas.Str.{digit_value_digit}
use Rattle.std.proofs.lemmas.Str.Parse.{digits_value_short}
use Rattle.sheet_format.proofs.CanonicalDecimals.{numerals}

digit-range : (c : ℕ) → is_ascii_digit c ≡ true → IsInRange 48 57 c
digit-range c e = grind (arith, nat_tests)

-- The first few digits leave room for one more in 64 bits.
pub bound : (ds : List ℕ) (i : ℕ) → list_all is_ascii_digit (take i ds) ≡ true → length ds ≤ 18
    → i ≤ length ds → digits_value 10 (take i ds) < 1000000000000000000
bound ds i e short h =
    let few = length-take-le i ds h in
    digits_value_short numerals (take i ds) 18 e (omega (arith, few, short, h))

-- What one more digit adds to those before it, and its room.
pub record Step (ds : List ℕ) (i : ℕ) : Type 0 where
  pub digit : IsInRange 48 57 (get_or ds i 0)
  pub digits : list_all is_ascii_digit (take (i + 1) ds) ≡ true
  pub more : digits_value 10 (take (i + 1) ds) ≡ digits_value 10 (take i ds) * 10
      + (get_or ds i 0 - 48)
  pub room : digits_value 10 (take i ds) < 1000000000000000000

-- One more digit, of at most 18, makes ten times the number before it and its own, with room.
pub step : (ds : List ℕ) (i : ℕ) → list_all is_ascii_digit (take i ds) ≡ true
    → is_ascii_digit (get_or ds i 0) ≡ true → length ds ≤ 18 → i < length ds → Step ds i
step ds i before here short h =
    let digit = digit-range (get_or ds i 0) here in
    let value = digit_value_digit (get_or ds i 0) digit in
    let more = digits_value_more 10 ds i h in
    let both = list_all_more is_ascii_digit ds i 0 h in
    record {
      digit = digit;
      digits = both ∙ and_from _ _ before here;
      more = omega (arith, more, value);
      room = bound ds i before short (omega (arith, h));
    }
