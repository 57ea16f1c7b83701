-- Numbers of few digits are small.
use Rattle.std.proofs.Common.{◌≡◌, ℕ, ◌<◌, ◌≤◌, true, List, length, Option, None, Some, IfSome}
use Rattle.std.proofs.Common.{OnSome, arith}
use Rattle.std.specs.Char.{is_ascii_digit}
use Rattle.std.specs.List.{list_all}
use Rattle.std.specs.Str.Parse.{digits_value}
use Rattle.std.proofs.lemmas.Str.Parse.{digits_value_short}
use Rattle.sheet_format.proofs.CanonicalDecimals.{numerals}

-- A number of at most nine digits is below 10^9.
pub few-digits : (digits : List ℕ) (read : Option ℕ)
    → IfSome read (λ number. number ≡ digits_value 10 digits)
    → OnSome read (list_all is_ascii_digit digits ≡ true) → length digits ≤ 9
    → IfSome read (λ number. number < 1000000000)
few-digits digits None value all few = tt
few-digits digits (Some number) value all few =
    let below = digits_value_short numerals digits 9 all few in
    omega (arith, below, value)
