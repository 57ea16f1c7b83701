-- The columns of a table, by what its rows have in them.
use Rattle.std.specs.Prelude.{ℕ, zero, suc, ◌+◌, Bool, true, not, ◌&&◌, ◌||◌, ◌==◌, nat_le, nat_lt}
use Rattle.std.specs.Prelude.{List, [], ◌∷◌, ◌++◌, filter, length, max, if◌then◌else◌}
use Rattle.std.specs.Fmt.{decimal}
use Rattle.std.specs.List.{list_all, list_any}
use Rattle.std.specs.Str.{bytes_eq}
use Rattle.direction_table.specs.Cells.{cell, field_in, is_stated_in, may_be_number, names_in}
use Rattle.direction_table.specs.FieldForms.{named}
use Rattle.direction_table.specs.Separators.{first_of}
use Rattle.direction_table.specs.TakenCells.{cells_of_each}
use Rattle.direction_table.specs.declared.number_columns.TheConstants.{MOST_COLUMNS}
use Rattle.direction_table.specs.declared.taken.Taken.{Taken}
use Rattle.direction_table.specs.declared.unit.AngleUnit.{AngleUnit}

-- So many columns, from 0 on.
abbrev pub columns_below : ℕ → List ℕ
columns_below zero = []
columns_below (suc n) = columns_below n ++ (n ∷ [])

-- How many columns the widest of some rows has.
abbrev pub width_of : List (List (List ℕ)) → ℕ
width_of [] = 0
width_of (row ∷ rows) = max (length row) (width_of rows)

-- The rows that name a target in a column.
abbrev pub rows_naming : List (List ℕ) → ℕ → List (List (List ℕ)) → List (List (List ℕ))
rows_naming targets column rows = filter (names_in targets column) rows

-- How many rows have a target's name in a column.
abbrev pub times_named : List (List ℕ) → ℕ → List (List (List ℕ)) → List ℕ → ℕ
times_named targets column rows target =
    length (filter (λ row. bytes_eq (named targets (field_in column row)) target) rows)

-- A column names the targets: each in one row.
abbrev pub is_naming : List (List ℕ) → List (List (List ℕ)) → ℕ → Bool
is_naming targets rows column =
    list_all (λ target. times_named targets column rows target == 1) targets

-- The columns of some rows that are looked at: all, but where they are too many none (profile).
abbrev pub looked_at : List (List (List ℕ)) → List ℕ
looked_at rows =
    if nat_le (width_of rows) MOST_COLUMNS then columns_below (width_of rows) else []

-- Those that name the targets.
abbrev pub naming_columns : List (List ℕ) → List (List (List ℕ)) → List ℕ
naming_columns targets rows = filter (is_naming targets rows) (looked_at rows)

-- A column counts its rows from a number on.
abbrev pub counts_from : ℕ → ℕ → List (List (List ℕ)) → Bool
counts_from number column [] = true
counts_from number column (row ∷ rows) =
    bytes_eq (cell column row) (decimal number) && counts_from (number + 1) column rows

-- A column has this field in all rows.
abbrev pub has_in_all : ℕ → List ℕ → List (List (List ℕ)) → Bool
has_in_all column field rows = list_all (λ row. bytes_eq (cell column row) field) rows

-- A column has the same field in all rows.
abbrev pub is_constant : ℕ → List (List (List ℕ)) → Bool
is_constant column rows = has_in_all column (cell column (first_of rows)) rows

-- A column beside the names says nothing of the targets: it stands before them, and counts the rows
-- from 0 or from 1, or is the same in all.
abbrev pub is_beside : ℕ → List (List (List ℕ)) → ℕ → Bool
is_beside names rows column =
    nat_lt column names
    && (counts_from 0 column rows || (counts_from 1 column rows || is_constant column rows))

-- A column may hold numbers in some of these rows, which name the targets.
abbrev pub is_numeric : ℕ → List (List (List ℕ)) → ℕ → Bool
is_numeric names rows column =
    not (column == names) && (not (is_beside names rows column)
    && list_any (λ row. may_be_number (cell column row)) rows)

-- Those of some columns that may.
abbrev pub numeric_columns : List ℕ → ℕ → List (List (List ℕ)) → List ℕ
numeric_columns columns names rows = filter (is_numeric names rows) columns

-- A column has a direction in each of these rows, which takes so many cells.
abbrev pub have_directions : Taken → AngleUnit → List (List (List ℕ)) → ℕ → Bool
have_directions taken unit rows column = list_all (is_stated_in taken unit column) rows

-- A column has a direction in each of these rows.
abbrev pub has_directions : AngleUnit → List (List (List ℕ)) → ℕ → Bool
has_directions unit rows column =
    have_directions (cells_of_each unit column rows) unit rows column

-- Those of some columns that do.
abbrev pub fitting_columns : AngleUnit → List (List (List ℕ)) → List ℕ → List ℕ
fitting_columns unit rows columns = filter (has_directions unit rows) columns
