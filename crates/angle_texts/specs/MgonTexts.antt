-- Small angles in mgon, as text (profile).
use Rattle.std.specs.Prelude.{ℕ, ◌/◌, List, [], ◌∷◌, ◌++◌, codes, decimal}
use Rattle.std.specs.Prelude.{ℤ, pos, negsuc, unsigned_abs}
use Rattle.direction_table.specs.DecimalNumbers.{point}
use Rattle.direction_table.specs.Texts.{last_digit}

-- a number of thousandths: the whole, a point, and three decimals
abbrev pub thousandths_text : ℕ → List ℕ
thousandths_text n =
    decimal (n / 1_000)
    ++ (point ∷ last_digit (n / 100) ∷ last_digit (n / 10) ∷ last_digit n ∷ [])

-- a number of hundredths: the whole, a point, and two decimals
abbrev pub hundredths_text : ℕ → List ℕ
hundredths_text n = decimal (n / 100) ++ (point ∷ last_digit (n / 10) ∷ last_digit n ∷ [])

-- what stands before a number: a minus where it is negative
abbrev pub sign_text : ℤ → List ℕ
sign_text (pos n) = []
sign_text (negsuc n) = codes "-"

-- An angle in mgon, as text: of units of 0.001 mgon.
abbrev pub mgon_text : ℤ → List ℕ
mgon_text units = sign_text units ++ thousandths_text (unsigned_abs units)

-- The same with two decimals: of units of 0.01 mgon.
abbrev pub short_mgon_text : ℤ → List ℕ
short_mgon_text units = sign_text units ++ hundredths_text (unsigned_abs units)
