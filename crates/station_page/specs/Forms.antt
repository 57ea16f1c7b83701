-- How a table is to be read, as numbers state it (profile).
use Rattle.std.specs.Prelude.{◌≡◌, ◌≢◌, ◌≤◌, ◌⊎◌, ◌==◌, ◌-◌, ℕ, Option, Some, None, if◌then◌else◌}
use Rattle.direction_table.specs.declared.form.ColumnPair.{ColumnPair}
use Rattle.direction_table.specs.declared.form.TableForm.{TableForm}
use Rattle.direction_table.specs.declared.unit.AngleUnit.{AngleUnit}
use Rattle.direction_table.specs.declared.unit.AngleUnit.TheVariants.{Gon, Degrees, PackedDegrees}
use Rattle.station_page.specs.declared.form.TheConstants.{LARGEST_COLUMN, LARGEST_UNIT}

-- the unit of a number: of 0 gon, of 1 degrees, of 2 degrees with minutes and seconds after the
-- point
abbrev pub stated_unit : ℕ → AngleUnit
stated_unit number =
    if number == 0 then Gon else (if number == 1 then Degrees else PackedDegrees)

-- the columns of two numbers, from 1: those of names and of directions; of 0 none
abbrev pub stated_columns : ℕ → ℕ → Option ColumnPair
stated_columns names directions =
    if names == 0 then None
    else Some (record { names = names - 1; directions = directions - 1 })

-- how a table is to be read
abbrev pub stated_form : ℕ → ℕ → ℕ → TableForm
stated_form unit names directions = record {
  unit = stated_unit unit;
  columns = stated_columns names directions;
}

-- The number is one of a column.
abbrev pub IsColumn : ℕ → Type 0
IsColumn number = (1 ≤ number) × (number ≤ LARGEST_COLUMN)

-- The numbers are those of two columns, which are not the same, or both are 0.
abbrev pub AreColumns : ℕ → ℕ → Type 0
AreColumns names directions =
    ((names ≡ 0) × (directions ≡ 0))
    ⊎ (IsColumn names × IsColumn directions × (names ≢ directions))

-- The numbers state how a table is to be read.
abbrev pub IsForm : ℕ → ℕ → ℕ → Type 0
IsForm unit names directions = (unit ≤ LARGEST_UNIT) × AreColumns names directions
