-- Decimal numbers without a sign, as text.
use Rattle.std.specs.Prelude.{ℕ, ◌+◌, ◌-◌, ◌*◌, ◌^◌, Bool, ◌&&◌, ◌||◌, ◌==◌, nat_le, List, [], ◌∷◌}
use Rattle.std.specs.Prelude.{length, take, drop, unwrap_or}
use Rattle.std.specs.Char.{is_ascii_digit}
use Rattle.std.specs.List.{list_all, position}
use Rattle.std.specs.Str.Parse.{digits_value}
use Rattle.sheet_format.specs.Numbers.{zero_digit}

-- The decimal point.
abbrev pub point : ℕ
point = 46

-- The decimal comma.
abbrev pub comma : ℕ
comma = 44

-- A decimal point, or a decimal comma.
abbrev pub is_mark : ℕ → Bool
is_mark b = (b == point) || (b == comma)

-- The place of the decimal point or comma of a number, or its end.
abbrev pub mark_of : List ℕ → ℕ
mark_of bytes = unwrap_or (position (λ b. is_mark b) bytes) (length bytes)

-- What follows the first byte.
abbrev pub after_first : List ℕ → List ℕ
after_first [] = []
after_first (b ∷ bytes) = bytes

-- The digits before the point of a number.
abbrev pub whole_part : List ℕ → List ℕ
whole_part bytes = take (mark_of bytes) bytes

-- The digits after the point of a number.
abbrev pub decimals_part : List ℕ → List ℕ
decimals_part bytes = after_first (drop (mark_of bytes) bytes)

-- At most so many digits before the point.
abbrev pub is_whole : ℕ → List ℕ → Bool
is_whole most digits = nat_le (length digits) most && list_all is_ascii_digit digits

-- Any number of digits after it, of which so many count, and those after them are 0.
abbrev pub is_fraction : ℕ → List ℕ → Bool
is_fraction most digits =
    list_all is_ascii_digit (take most digits)
    && list_all (λ digit. digit == zero_digit) (drop most digits)

-- A decimal number: digits before the point, at most so many, or after it, of which so many count,
-- or both (profile).
abbrev pub is_decimal : ℕ → ℕ → List ℕ → Bool
is_decimal most_whole most_decimals bytes =
    nat_le 1 (length (whole_part bytes) + length (decimals_part bytes))
    && (is_whole most_whole (whole_part bytes) && is_fraction most_decimals (decimals_part bytes))

-- A fraction, in units of the last decimal that counts.
abbrev pub fraction_value : ℕ → List ℕ → ℕ
fraction_value most digits =
    digits_value 10 (take most digits) * 10 ^ (most - length (take most digits))

-- The number that such bytes write, in units of the last decimal that counts.
abbrev pub decimal_value : ℕ → List ℕ → ℕ
decimal_value most bytes =
    digits_value 10 (whole_part bytes) * 10 ^ most + fraction_value most (decimals_part bytes)

-- Any number of digits, of which so many count.
abbrev pub are_decimals : ℕ → List ℕ → Bool
are_decimals most digits =
    list_all is_ascii_digit (take most digits) && list_all is_ascii_digit (drop most digits)

-- Those that don't count are 0.
abbrev pub end_in_zeros : ℕ → List ℕ → Bool
end_in_zeros most digits = list_all (λ digit. digit == zero_digit) (drop most digits)

-- A number whose point is to be moved to the right by so many places: then at most three digits
-- stand before it, and any number of them after it (profile).
abbrev pub is_shifted : ℕ → List ℕ → Bool
is_shifted shift bytes =
    nat_le 1 (length (whole_part bytes) + length (decimals_part bytes))
    && (is_whole (3 - shift) (whole_part bytes)
    && (list_all is_ascii_digit (take shift (decimals_part bytes))
    && are_decimals 9 (drop shift (decimals_part bytes))))

-- The number with its point moved, in units of its ninth decimal; the digits past that are left
-- out.
abbrev pub shifted_value : ℕ → List ℕ → ℕ
shifted_value shift bytes =
    (digits_value 10 (whole_part bytes) * 10 ^ shift
    + fraction_value shift (decimals_part bytes)) * 10 ^ 9
    + fraction_value 9 (drop shift (decimals_part bytes))

-- Nothing but zeros is left out.
abbrev pub is_shifted_whole : ℕ → List ℕ → Bool
is_shifted_whole shift bytes = end_in_zeros 9 (drop shift (decimals_part bytes))
