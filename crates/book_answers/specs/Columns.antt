-- Columns of a table of all stations, whose first is that of the stations' names, and of the part of
-- one, which lacks it.
use Rattle.std.specs.Prelude.{◌==◌, ◌+◌, ◌-◌, ℕ, if◌then◌else◌, nat_lt, option_map}
use Rattle.direction_table.specs.declared.form.ColumnPair.{ColumnPair}
use Rattle.direction_table.specs.declared.form.TableForm.{TableForm}
use Rattle.direction_table.specs.declared.reading.ByColumns.{ByColumns}

-- The largest number of 32 bits: no row has so many columns.
abbrev pub past_all : ℕ
past_all = 4294967295

-- A column of a part is the next one of the whole.
abbrev pub column_in_whole : ℕ → ℕ
column_in_whole column = if nat_lt column past_all then column + 1 else past_all

-- A column of the whole, counted from 0, is the one before it of the part; the first is none there.
abbrev pub column_in_part : ℕ → ℕ
column_in_part column = if column == 0 then past_all else column - 1

-- A pair of columns of a part, as the whole has them.
abbrev pub pair_in_whole : ColumnPair → ColumnPair
pair_in_whole pair = record {
  names = column_in_whole pair.names;
  directions = column_in_whole pair.directions;
}

-- How a part was read, by the columns of the whole.
abbrev pub read_in_whole : ByColumns → ByColumns
read_in_whole by = record { pair = pair_in_whole by.pair; passed = by.passed }

-- A pair of columns of the whole, as a part has them.
abbrev pub pair_in_part : ColumnPair → ColumnPair
pair_in_part pair = record {
  names = column_in_part pair.names;
  directions = column_in_part pair.directions;
}

-- How a part is read, where this is stated of the whole: its columns are counted by that.
abbrev pub form_in_part : TableForm → TableForm
form_in_part form = record { unit = form.unit; columns = option_map pair_in_part form.columns }
