-- The number of a canonical field, in the two ways in which the code keeps it.
use Rattle.std.specs.Prelude.{ℤ}
use Rattle.sheet_format.specs.Numbers.{value_of}
use Rattle.sheet_format.specs.declared.number.Numeral.{Numeral}
use Rattle.sheet_format.specs.declared.number.Numeral.TheVariants.{Short, Long}

-- the number of a short field, which was read, or that of a longer one
abbrev pub number_of : Numeral → ℤ
number_of (Short number) = number
number_of (Long long) = value_of long.field.now
