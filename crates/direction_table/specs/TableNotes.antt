-- What is told of a table that is read by a pair of its columns: which they are, from 1, and how
-- much was passed over (profile).
use Rattle.std.specs.Prelude.{ℕ, ◌+◌, ◌-◌, Bool, not, ◌||◌, List, [], ◌++◌, filter, length, codes}
use Rattle.std.specs.Prelude.{Option, Some, None}
use Rattle.std.specs.Fmt.{decimal}
use Rattle.std.specs.List.{prefix_len, suffix_len}
use Rattle.std.specs.Str.{bytes_eq}
use Rattle.direction_table.specs.Cells.{cell, gon_word, names_in, without_unit}
use Rattle.direction_table.specs.NumberColumns.{rows_naming}
use Rattle.direction_table.specs.Separators.{rows_by}
use Rattle.direction_table.specs.TableRows.{way_of}
use Rattle.direction_table.specs.declared.form.ColumnPair.{ColumnPair}
use Rattle.direction_table.specs.declared.form.TableForm.{TableForm}
use Rattle.direction_table.specs.declared.note.Passed.{Passed}
use Rattle.direction_table.specs.declared.reading.ByColumns.{ByColumns as ToldColumns}
use Rattle.direction_table.specs.declared.unit.AngleUnit.{AngleUnit}
use Rattle.direction_table.specs.declared.way.Way.{Way}
use Rattle.direction_table.specs.declared.way.Way.TheVariants.{TwoColumns, ByColumns, MoreFit}

-- A row names no target in the column of names.
abbrev pub is_other : List (List ℕ) → ColumnPair → List (List ℕ) → Bool
is_other targets pair row = not (names_in targets pair.names row)

-- How many rows stand before the first that names a target.
abbrev pub rows_before : List (List ℕ) → ColumnPair → List (List (List ℕ)) → ℕ
rows_before targets pair rows = prefix_len (is_other targets pair) rows

-- How many stand after the last.
abbrev pub rows_after : List (List ℕ) → ColumnPair → List (List (List ℕ)) → ℕ
rows_after targets pair rows = suffix_len (is_other targets pair) rows

-- How many stand between those that do.
abbrev pub rows_among : List (List ℕ) → ColumnPair → List (List (List ℕ)) → ℕ
rows_among targets pair rows =
    length (filter (is_other targets pair) rows)
    - (rows_before targets pair rows + rows_after targets pair rows)

-- Whether a unit stands behind a direction, in its field or in the next.
abbrev pub has_unit : AngleUnit → ℕ → List (List ℕ) → Bool
has_unit unit column row =
    bytes_eq gon_word (cell (column + 1) row)
    || not (bytes_eq (without_unit unit (cell column row)) (cell column row))

-- How many of the rows that name a target have one.
abbrev pub units_passed : AngleUnit → List (List ℕ) → ColumnPair → List (List (List ℕ)) → ℕ
units_passed unit targets pair rows =
    length (filter (has_unit unit pair.directions) (rows_naming targets pair.names rows))

-- What was passed over of rows that are read by a pair of columns.
abbrev pub passed_by : AngleUnit → List (List ℕ) → ColumnPair → List (List (List ℕ)) → Passed
passed_by unit targets pair rows = record {
  before = rows_before targets pair rows;
  among = rows_among targets pair rows;
  after = rows_after targets pair rows;
  units = units_passed unit targets pair rows;
}

-- A text and a number after it.
unfoldable pub numbered : List ℕ → ℕ → List ℕ
numbered text number = text ++ decimal number

-- The line of a note.
abbrev pub note_line : ToldColumns → List ℕ
note_line by =
    numbered (codes "note: table: targets in column ") (by.pair.names + 1)
    ++ (numbered (codes ", directions in column ") (by.pair.directions + 1)
    ++ (numbered (codes "; rows passed over: ") by.passed.before
    ++ (numbered (codes " before, ") by.passed.among
    ++ (numbered (codes " among, ") by.passed.after
    ++ (numbered (codes " after them; units passed over: ") by.passed.units
    ++ codes "\n")))))

-- The note of what is told: none, where nothing is.
abbrev pub told_note : Option ToldColumns → List ℕ
told_note None = []
told_note (Some by) = note_line by

-- What is told of bytes that are read in a way: nothing, where they are read as two columns.
abbrev pub columns_by : AngleUnit → List (List ℕ) → List ℕ → Way → Option ToldColumns
columns_by unit targets bytes TwoColumns = None
columns_by unit targets bytes (ByColumns separator pair) =
    Some
    (record { pair = pair; passed = passed_by unit targets pair (rows_by separator bytes) })
columns_by unit targets bytes (MoreFit first second) = None

-- What is told of a table.
abbrev pub columns_read : TableForm → List (List ℕ) → List ℕ → Option ToldColumns
columns_read form targets bytes = columns_by form.unit targets bytes (way_of form targets bytes)

-- The note of a table.
abbrev pub table_note : TableForm → List (List ℕ) → List ℕ → List ℕ
table_note form targets bytes = told_note (columns_read form targets bytes)
