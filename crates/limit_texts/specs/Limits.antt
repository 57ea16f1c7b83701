-- A limit as people state it: in mgon, as `0.3mgon`, or as a number of the units in which it is
-- counted (profile).
use Rattle.std.specs.Prelude.{◌≡◌, ◌⊎◌, ℕ, ◌*◌, Bool, true, List, ◌++◌, codes, pos}
use Rattle.std.specs.Str.Parse.{IsNumeral, signed_digits_value, without_leading_sign}
use Rattle.direction_table.specs.DecimalNumbers.{decimal_value, is_decimal}
use Rattle.limit_texts.specs.declared.limit.LimitUnit.{LimitUnit}
use Rattle.limit_texts.specs.declared.limit.LimitUnit.TheVariants.{Hundredth, HalfUnit, Thousandth}

-- How many thousandths of a mgon a unit is.
abbrev pub thousandths_in : LimitUnit → ℕ
thousandths_in Hundredth = 10
thousandths_in HalfUnit = 5
thousandths_in Thousandth = 1

-- A number of mgon without a sign: at most nine digits before its point or comma, and any number
-- after it, of which those after the third are 0 (profile).
abbrev pub is_number : List ℕ → Bool
is_number bytes = is_decimal 9 3 bytes

-- The number that such bytes write, in thousandths.
abbrev pub thousandths_value : List ℕ → ℕ
thousandths_value bytes = decimal_value 3 bytes

-- The text is a number of mgon with `mgon` after it, and is so many units of `unit` thousandths of
-- a mgon: neither more nor less.
pub record StatesMgon (unit : ℕ) (text : List ℕ) (limit : ℕ) : Type 0 where
  pub number : List ℕ
  pub text_is : text ≡ number ++ codes "mgon"
  pub a_number : is_number number ≡ true
  pub value : thousandths_value number ≡ limit * unit

-- The text is a whole number of units: digits, of which it has one at least, after a sign or none.
pub record StatesUnits (text : List ℕ) (limit : ℕ) : Type 0 where
  pub digits : IsNumeral 10 (without_leading_sign text)
  pub value : signed_digits_value 10 text ≡ pos limit

-- The text states this limit, counted in this unit.
abbrev pub StatesLimit : LimitUnit → List ℕ → ℕ → Type 0
StatesLimit unit text limit = StatesMgon (thousandths_in unit) text limit ⊎ StatesUnits text limit
