-- Numbers of a sheet, as text.
use Rattle.std.specs.Prelude.{ℕ, Bool, false, ◌&&◌, ◌==◌, if◌then◌else◌, List, [], ◌∷◌, length, ℤ}
use Rattle.std.specs.Prelude.{pos, negsuc, int_le}
use lib.IntN.{neg_ℤ}
use Rattle.std.specs.Char.{is_ascii_digit}
use Rattle.std.specs.Int.{is_in_range}
use Rattle.std.specs.List.{list_all}
use Rattle.std.specs.Str.Parse.{signed_digits_value}

-- a digit 1 to 9, then any digits
abbrev pub is_positive : List ℕ → Bool
is_positive [] = false
is_positive (c ∷ cs) = is_in_range 49 57 c && list_all is_ascii_digit cs

-- the digit 0
abbrev pub zero_digit : ℕ
zero_digit = 48

-- the sign of a number below 0
abbrev pub minus : ℕ
minus = 45

-- a canonical decimal: 0, or an optional minus, a digit 1 to 9 and any digits. So each number has
-- one text, of any length: no leading zeros, no plus, no minus before 0 (profile)
abbrev pub is_canonical : List ℕ → Bool
is_canonical [] = false
is_canonical (c ∷ cs) =
    if c == zero_digit then length cs == 0
    else (if c == minus then is_positive cs else is_positive (c ∷ cs))

-- the number that a canonical decimal writes, whatever its length
abbrev pub value_of : List ℕ → ℤ
value_of bytes = signed_digits_value 10 bytes

-- a number lies between two, both included
abbrev pub is_within : ℤ → ℤ → ℤ → Bool
is_within low high number = int_le low number && int_le number high

-- a number is at most this large, either way
abbrev pub is_at_most : ℤ → ℤ → Bool
is_at_most most number = is_within (neg_ℤ most) most number

-- a number that is not below 0, as a natural one
abbrev pub natural_of : ℤ → ℕ
natural_of (pos n) = n
natural_of (negsuc n) = 0
