-- The text of a sheet, as it is written.
use Rattle.std.specs.Prelude.{◌≡◌, ℕ, Bool, false, ◌&&◌, nat_le, if◌then◌else◌, ◌++◌, List, Option}
use Rattle.std.specs.Prelude.{Some}
use Rattle.std.specs.List.{flat_map, list_all}
use Rattle.csv.specs.Writing.{default_writer, fields_written, has_written, row_text, text_written}
use Rattle.csv.specs.Writing.{writer_setup}
use Rattle.csv.specs.declared.writer.Writer.{Writer}
use Rattle.adjust_kernel.specs.Sheets.{SheetValue}
use Rattle.sheet_format.specs.Numbers.{is_at_most}
use Rattle.sheet_format.specs.Rows.{rows_of}
use Rattle.sheet_format.specs.Versions.{largest_angle, largest_denominator}
use Rattle.sheet_format.specs.declared.version.Version.{Version}
use Rattle.sheet_format.specs.declared.version.Version.TheVariants.{One, Two}

-- whether the denominator, all directions and all orientations are within the ranges of a version
abbrev pub is_of_version : Version → SheetValue → Bool
is_of_version v s =
    nat_le s.denominator (largest_denominator v)
    && list_all (λ d. is_at_most (largest_angle v) d.value) s.directions
    && list_all (λ o. is_at_most (largest_angle v) o.value) s.orientations

-- the version that a sheet is written in: 1 where all its numbers are within the ranges of 1, else
-- 2
abbrev pub version_for : SheetValue → Version
version_for s = if is_of_version One s then One else Two

-- rows as `csv` writes them: fields with a comma, a quote or a line end in quotes, a line feed
-- after each row
abbrev pub rows_text : List (List (List ℕ)) → List ℕ
rows_text rows = flat_map (row_text default_writer) rows

-- the text of a sheet
abbrev pub sheet_text : SheetValue → List ℕ
sheet_text s = rows_text (rows_of (version_for s) s)

-- a writer of rows with the default settings stands between two rows, and this text was written
pub record HasWritten {W : Type 0} (contents : W → Option (List ℕ)) (writer : Writer W)
    (text : List ℕ) : Type 0 where
  pub setup : writer_setup writer ≡ default_writer
  pub fields : fields_written writer ≡ 0
  pub between : has_written writer ≡ false
  pub whole : text_written contents writer ≡ Some text

-- whatever text stood between two rows before, this was written after it, and again it stands so
abbrev pub Writes : {W : Type 0} → (W → Option (List ℕ)) → Writer W → Writer W → List ℕ → Type 0
Writes contents before after written =
    (text : List ℕ) → HasWritten contents before text → HasWritten contents after (text ++ written)
