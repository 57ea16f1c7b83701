-- Decimal numbers, as programs print directions in gon, and those in degrees without minutes: as
-- 139.4045381361607, or with an exponent of ten as 1.5e-05.
use Rattle.std.specs.Prelude.{ℕ, ◌+◌, ◌-◌, ◌/◌, ◌%◌, ◌^◌, Bool, false, true, ◌&&◌, ◌||◌, ◌==◌}
use Rattle.std.specs.Prelude.{nat_le, if◌then◌else◌, List, [], ◌∷◌, length, take, drop, unwrap_or}
use Rattle.std.specs.Prelude.{ℤ, pos}
use lib.IntN.{neg_ℤ}
use Rattle.std.specs.List.{list_any, position}
use Rattle.std.specs.Str.Parse.{digits_value}
use Rattle.sheet_format.specs.Numbers.{minus}
use Rattle.direction_table.specs.DecimalNumbers.{after_first, decimals_part, is_shifted}
use Rattle.direction_table.specs.DecimalNumbers.{is_shifted_whole, is_whole, shifted_value}

-- The sign of a number that is not below 0, which may be left out.
abbrev pub plus : ℕ
plus = 43

-- The letter before an exponent, small or large.
abbrev pub is_letter : ℕ → Bool
is_letter b = (b == 101) || (b == 69)

-- The place of the letter of a number, or its end.
abbrev pub letter_of : List ℕ → ℕ
letter_of bytes = unwrap_or (position (λ b. is_letter b) bytes) (length bytes)

-- What stands before the letter.
abbrev pub mantissa : List ℕ → List ℕ
mantissa bytes = take (letter_of bytes) bytes

-- What stands after it.
abbrev pub exponent : List ℕ → List ℕ
exponent bytes = after_first (drop (letter_of bytes) bytes)

-- A number has an exponent where it has such a letter.
abbrev pub has_exponent : List ℕ → Bool
has_exponent bytes = list_any (λ b. is_letter b) bytes

-- The digits of an exponent: one to three.
abbrev pub are_power : List ℕ → Bool
are_power digits = nat_le 1 (length digits) && is_whole 3 digits

-- A mantissa has an exponent of this sign and these digits: with a minus any; with a plus 2 at
-- most, so that three digits stand before the point (profile).
abbrev pub is_raised : List ℕ → ℕ → List ℕ → Bool
is_raised bytes sign digits =
    are_power digits
    && (if sign == minus then is_shifted 0 bytes
    else ((sign == plus) && (nat_le (digits_value 10 digits) 2
    && is_shifted (digits_value 10 digits) bytes)))

-- A mantissa and an exponent are a number: the exponent has a sign.
abbrev pub is_scaled : List ℕ → List ℕ → Bool
is_scaled bytes [] = false
is_scaled bytes (sign ∷ digits) = is_raised bytes sign digits

-- A number without its sign: at most three digits before the point, and any number after it, with
-- or without an exponent.
abbrev pub is_size : List ℕ → Bool
is_size bytes =
    if has_exponent bytes then is_scaled (mantissa bytes) (exponent bytes) else is_shifted 0 bytes

-- The value of a mantissa with an exponent, in units of the ninth decimal; what stands past that is
-- left out.
abbrev pub scaled_value : List ℕ → List ℕ → ℕ
scaled_value bytes [] = 0
scaled_value bytes (sign ∷ digits) =
    if sign == minus then shifted_value 0 bytes / 10 ^ digits_value 10 digits
    else shifted_value (digits_value 10 digits) bytes

-- The number that such bytes write, in units of the ninth decimal: its decimals past the ninth are
-- left out.
abbrev pub size_value : List ℕ → ℕ
size_value bytes =
    if has_exponent bytes then scaled_value (mantissa bytes) (exponent bytes)
    else shifted_value 0 bytes

-- Nothing but zeros is left out of a mantissa with an exponent.
abbrev pub is_scaled_whole : List ℕ → List ℕ → Bool
is_scaled_whole bytes [] = true
is_scaled_whole bytes (sign ∷ digits) =
    if sign == minus then (is_shifted_whole 0 bytes
    && (shifted_value 0 bytes % 10 ^ digits_value 10 digits == 0))
    else is_shifted_whole (digits_value 10 digits) bytes

-- Nothing but zeros is left out: the number is a whole number of such units.
abbrev pub is_whole_size : List ℕ → Bool
is_whole_size bytes =
    if has_exponent bytes then is_scaled_whole (mantissa bytes) (exponent bytes)
    else is_shifted_whole 0 bytes

-- How many decimals a mantissa with an exponent has, where its point is moved.
abbrev pub scaled_decimals : List ℕ → List ℕ → ℕ
scaled_decimals bytes [] = 0
scaled_decimals bytes (sign ∷ digits) =
    if sign == minus then length (decimals_part bytes) + digits_value 10 digits
    else length (decimals_part bytes) - digits_value 10 digits

-- How many decimals a number has.
abbrev pub size_decimals : List ℕ → ℕ
size_decimals bytes =
    if has_exponent bytes then scaled_decimals (mantissa bytes) (exponent bytes)
    else length (decimals_part bytes)

-- The digits of a direction without its sign.
abbrev pub unsigned : List ℕ → List ℕ
unsigned [] = []
unsigned (b ∷ bytes) = if (b == minus) || (b == plus) then bytes else b ∷ bytes

-- Whether a field begins with a minus.
abbrev pub is_negative : List ℕ → Bool
is_negative [] = false
is_negative (b ∷ bytes) = b == minus

-- A number with its sign.
abbrev pub signed : Bool → ℕ → ℤ
signed negative size = if negative then neg_ℤ (pos size) else pos size
