-- The median of the differences of a table. Where most targets agree it is what they agree on: less
-- it their differences are about 0, and that of a direction that is wrong stands out alone.
use Rattle.std.specs.Prelude.{ℕ, ◌*◌, Bool, ◌&&◌, nat_le, nat_lt, List, length, ℤ, pos, int_le}
use Rattle.std.specs.Prelude.{int_lt, Option, Some, None}
use Rattle.std.specs.List.{count_by, find}
use Rattle.station_differences.specs.declared.compared.TargetDifference.{TargetDifference}

-- how many rows have a difference below this one
abbrev pub below : List TargetDifference → ℤ → ℕ
below rows difference = count_by (λ row. int_lt row.difference difference) rows

-- how many have one that is not above it
abbrev pub not_above : List TargetDifference → ℤ → ℕ
not_above rows difference = count_by (λ row. int_le row.difference difference) rows

-- A difference is the lower median of rows: fewer than half of them have one below it, and half of
-- them or more one that is not above it.
abbrev pub is_median : List TargetDifference → ℤ → Bool
is_median rows difference =
    nat_lt (2 * below rows difference) (length rows)
    && nat_le (length rows) (2 * not_above rows difference)

-- the difference of a row that was found; 0 where there is none
abbrev pub difference_of : Option TargetDifference → ℤ
difference_of None = pos 0
difference_of (Some row) = row.difference

-- The lower median of the differences of rows; 0 of no rows.
abbrev pub median_of : List TargetDifference → ℤ
median_of rows = difference_of (find (λ row. is_median rows row.difference) rows)
