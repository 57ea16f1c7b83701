-- The text of a direction, as it is written. Directions are in units of the ninth decimal of a gon.
use Rattle.std.specs.Prelude.{◌≡◌, ℕ, zero, suc, ◌+◌, ◌-◌, ◌^◌, ◌/◌, ◌%◌, ◌≤◌, ◌<◌, List, [], ◌∷◌}
use Rattle.std.specs.Prelude.{◌++◌}
use Rattle.std.specs.Fmt.{decimal}
use Rattle.sheet_format.specs.Numbers.{zero_digit}
use Rattle.direction_table.specs.DecimalNumbers.{point}
use Rattle.direction_table.specs.declared.decimals.TheConstants.{MOST_WRITTEN}
use Rattle.adjust_kernel.specs.declared.units.TheConstants.{CIRCLE}

-- The last digit of a number, as text.
abbrev pub last_digit : ℕ → ℕ
last_digit n = zero_digit + n % 10

-- The first so many decimals of a direction, each as a digit (the place notation of decimals).
abbrev pub decimals_of : ℕ → ℕ → List ℕ
decimals_of zero direction = []
decimals_of (suc k) direction =
    decimals_of k direction ++ (last_digit (direction / 10 ^ (8 - k)) ∷ [])

-- A direction as text: the gon, a point, and so many decimals (profile).
abbrev pub direction_text : ℕ → ℕ → List ℕ
direction_text count direction =
    decimal (direction / 10 ^ 9) ++ (point ∷ decimals_of count direction)

-- How many decimals are written: 1 to 8 (profile).
abbrev pub AreDecimals : ℕ → Type 0
AreDecimals count = (1 ≤ count) × (count ≤ MOST_WRITTEN)

-- The step of a number of decimals: one unit of the last of them.
abbrev pub step_of : ℕ → ℕ
step_of count = 10 ^ (9 - count)

-- A direction that so many decimals write exactly: below a full circle, and a multiple of their
-- step.
abbrev pub IsWhole : ℕ → ℕ → Type 0
IsWhole count direction = (direction < CIRCLE) × (direction % step_of count ≡ 0)
