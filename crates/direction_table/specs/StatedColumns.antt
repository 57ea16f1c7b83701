-- Two columns as they are stated: two numbers from 1 with a comma between, as `2,6`, not twice the
-- same, for a column of names has no directions.
use Rattle.std.specs.Prelude.{ℕ, ◌-◌, ◌==◌, Bool, ◌&&◌, nat_le, List, length}
use Rattle.std.specs.Prelude.{Option, Some, None}
use Rattle.std.specs.Prelude.{if◌then◌else◌}
use Rattle.std.specs.Str.Parse.{digits_value}
use Rattle.direction_table.specs.DecimalNumbers.{comma, is_whole}
use Rattle.direction_table.specs.Degrees.{after, before}
use Rattle.direction_table.specs.declared.form.ColumnPair.{ColumnPair}

-- The number of a column, from 1: at most six digits (profile).
abbrev pub is_column : List ℕ → Bool
is_column digits =
    nat_le 1 (length digits) && (is_whole 6 digits && nat_le 1 (digits_value 10 digits))

-- The columns of two numbers, counted from 0; of the same twice none.
abbrev pub two_columns : ℕ → ℕ → Option ColumnPair
two_columns names directions =
    if names == directions then None else Some (record { names = names; directions = directions })

-- The columns that a text states, counted from 0: those of names and of directions.
abbrev pub stated_columns : List ℕ → Option ColumnPair
stated_columns text =
    if is_column (before comma text) && is_column (after comma text)
    then two_columns (digits_value 10 (before comma text) - 1)
    (digits_value 10 (after comma text) - 1)
    else None
