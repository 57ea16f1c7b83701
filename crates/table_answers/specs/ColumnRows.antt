-- By which pair of its columns a table was read, and what was passed over of it, as data: a row
-- below its titles (profile).
use Rattle.std.specs.Prelude.{ℕ, ◌+◌, List, ◌++◌, Option, Some, None, codes, decimal}
use Rattle.direction_table.specs.TableNotes.{columns_read}
use Rattle.direction_table.specs.declared.form.TableForm.{TableForm}
use Rattle.direction_table.specs.declared.reading.ByColumns.{ByColumns}
use Rattle.table_answers.specs.VerdictRows.{cell}

-- the titles of the columns
abbrev pub columns_titles : List ℕ
columns_titles = codes "names,directions,before,among,after,units\n"

-- The row of a pair of columns, counted from 1, and of what was passed over: rows before the first
-- that names a target, among them and after the last, and units.
abbrev pub columns_row : ByColumns → List ℕ
columns_row by =
    decimal (by.pair.names + 1)
    ++ (cell (by.pair.directions + 1)
    ++ (cell by.passed.before
    ++ (cell by.passed.among
    ++ (cell by.passed.after
    ++ (cell by.passed.units ++ codes "\n")))))

-- That row below the titles; of a table that is read as two columns, the titles alone.
abbrev pub columns_rows : Option ByColumns → List ℕ
columns_rows None = columns_titles
columns_rows (Some by) = columns_titles ++ columns_row by

-- Those of a table that is read for these targets.
abbrev pub table_columns : TableForm → List (List ℕ) → List ℕ → List ℕ
table_columns form targets bytes = columns_rows (columns_read form targets bytes)
