-- The numbers that bytes write, exactly, with all their decimals; and what it is that is read of
-- them.
use Rattle.std.specs.Prelude.{◌≡◌, ℕ, ◌+◌, ◌*◌, ◌^◌, ◌≤◌, ◌<◌, ◌==◌, if◌then◌else◌, List, [], ◌∷◌, ◌++◌}
use Rattle.std.specs.Prelude.{length}
use Rattle.std.specs.Str.Parse.{digits_value}
use Rattle.sheet_format.specs.Numbers.{minus}
use Rattle.direction_table.specs.DecimalNumbers.{decimals_part, whole_part}
use Rattle.direction_table.specs.Gons.{exponent, has_exponent, mantissa}

-- A fraction.
pub record Fraction : Type 0 where
  pub numerator : ℕ
  pub denominator : ℕ

-- The digits of a decimal number, those before its point and those after it, as one number.
abbrev pub all_digits : List ℕ → ℕ
all_digits bytes = digits_value 10 (whole_part bytes ++ decimals_part bytes)

-- A power of ten for each of its decimals.
abbrev pub tens : List ℕ → ℕ
tens bytes = 10 ^ length (decimals_part bytes)

-- A decimal number (the place notation of decimals).
abbrev pub plain_number : List ℕ → Fraction
plain_number bytes = record { numerator = all_digits bytes; denominator = tens bytes }

-- A mantissa times or divided by a power of ten, as the sign of the exponent says.
abbrev pub scaled_number : List ℕ → List ℕ → Fraction
scaled_number bytes [] = record { numerator = 0; denominator = 1 }
scaled_number bytes (sign ∷ digits) =
    if sign == minus
    then record {
      numerator = all_digits bytes;
      denominator = tens bytes * 10 ^ digits_value 10 digits;
    }
    else record {
      numerator = all_digits bytes * 10 ^ digits_value 10 digits;
      denominator = tens bytes;
    }

-- The number that bytes write, with an exponent or without.
abbrev pub written_number : List ℕ → Fraction
written_number bytes =
    if has_exponent bytes then scaled_number (mantissa bytes) (exponent bytes)
    else plain_number bytes

-- A number rounded down to whole units, of which 1 has so many: less than a unit is left out.
pub record IsRoundedDown (per_one : ℕ) (number : Fraction) (units : ℕ) : Type 0 where
  pub not_above : units * number.denominator ≤ number.numerator * per_one
  pub less_left : number.numerator * per_one < (units + 1) * number.denominator

-- A number is so many units: nothing is left out.
abbrev pub IsWholeNumber : ℕ → Fraction → ℕ → Type 0
IsWholeNumber per_one number units = number.numerator * per_one ≡ units * number.denominator
