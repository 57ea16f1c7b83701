-- What is told of stations beside their one text.
use Rattle.std.specs.Prelude.{◌≡◌, ℕ, List, [], ◌++◌, codes, drop, Option, nat_eq, option_map}
use Rattle.std.specs.Prelude.{if◌then◌else◌}
use Rattle.std.specs.List.{AllZip, concat, starts_with}
use Rattle.book_answers.specs.Columns.{form_in_part, read_in_whole}
use Rattle.direction_table.specs.TableNotes.{columns_read, told_note}
use Rattle.direction_table.specs.declared.form.TableForm.{TableForm}
use Rattle.direction_table.specs.declared.reading.ByColumns.{ByColumns}
use Rattle.direction_table.specs.declared.unit.AngleUnit.{AngleUnit}
use Rattle.station_book.specs.Stations.{SurveyedStation}
use Rattle.station_tables.specs.Parts.{part_of}
use Rattle.table_answers.specs.OtherUnits.{IsOtherUnit, unit_note}

-- What is told of stations, one after another.
pub record AreNotes (IsNote : SurveyedStation → List ℕ → Type 0)
    (stations : List SurveyedStation) (notes : List ℕ) : Type 0 where
  pub of_each : List (List ℕ)
  pub each : AllZip IsNote stations of_each
  pub notes_are : notes ≡ concat of_each

-- nothing is told of a station
abbrev pub IsNoNote : SurveyedStation → List ℕ → Type 0
IsNoNote its note = note ≡ []

-- what a line has behind `note: `, where it begins so
abbrev pub noted : List ℕ → List ℕ
noted line = if starts_with nat_eq line (codes "note: ") then drop 6 line else line

-- a line that is told of the part of the station of this name
abbrev pub line_of : List ℕ → List ℕ → List ℕ
line_of name line = codes "note: station " ++ (name ++ (codes ": " ++ noted line))

-- the same, where there is one
abbrev pub named_line : List ℕ → List ℕ → List ℕ
named_line name [] = []
named_line name line = line_of name line

-- The columns of a part as of a table of it alone, but with the name of its station, and by those
-- of the whole table; none of a part of two columns.
abbrev pub named_columns : List ℕ → Option ByColumns → List ℕ
named_columns name by = named_line name (told_note (option_map read_in_whole by))

-- This is the note of a station and of the bytes of its part: by which columns they are read, and
-- what is passed over of them; and the unit in which they agree, where they are apart as they are
-- read.
pub record IsNoteOf (form : TableForm) (its : SurveyedStation) (bytes note : List ℕ)
    : Type 0 where
  pub other : Option AngleUnit
  pub names : IsOtherUnit form its.station bytes other
  pub note_is : note
      ≡ named_columns its.station.name (columns_read form its.station.targets bytes)
      ++ named_line its.station.name (unit_note other)

-- The same of a station and of its part of these lines, where this form is stated of the whole.
abbrev pub IsPartNote : TableForm → List (List ℕ) → SurveyedStation → List ℕ → Type 0
IsPartNote form lines its note =
    IsNoteOf (form_in_part form) its (part_of its.station.name lines) note
