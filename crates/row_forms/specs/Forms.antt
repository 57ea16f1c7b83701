-- The two forms in which rows are written (profile): with commas between cells and points in
-- numbers, and with semicolons between cells and commas in numbers.
use Rattle.std.specs.Prelude.{◌==◌, ℕ, List, if◌then◌else◌, map}
use Rattle.std.specs.List.{flat_map}
use Rattle.csv.specs.Writing.{comma, default_writer, row_text, with_delimiter}
use Rattle.csv.specs.declared.writer.WriterBuilder.{WriterBuilder}
use Rattle.row_forms.specs.declared.form.RowForm.{RowForm}
use Rattle.row_forms.specs.declared.form.RowForm.TheVariants.{Commas, Semicolons}

-- the byte of a semicolon
abbrev pub semicolon : ℕ
semicolon = 59

-- the byte of a point
abbrev pub point : ℕ
point = 46

-- what stands between two cells of a row
abbrev pub separator : RowForm → ℕ
separator Commas = comma
separator Semicolons = semicolon

-- the point of a number
abbrev pub point_of : RowForm → ℕ
point_of Commas = point
point_of Semicolons = comma

-- a byte of a number, with a comma for its point
abbrev pub with_comma : ℕ → ℕ
with_comma byte = if byte == point then comma else byte

-- A number in a form, of the text that it has with a point.
abbrev pub number_in : RowForm → List ℕ → List ℕ
number_in Commas number = number
number_in Semicolons number = map with_comma number

-- The settings of `csv`'s writer: the form's separator, and all else as usual.
abbrev pub writer_of : RowForm → WriterBuilder
writer_of form = with_delimiter default_writer (separator form)

-- Rows as `csv` writes them in a form: cells with its separator, a quote or a line end in quotes, a
-- line feed after each row.
abbrev pub rows_text : RowForm → List (List (List ℕ)) → List ℕ
rows_text form rows = flat_map (row_text (writer_of form)) rows
