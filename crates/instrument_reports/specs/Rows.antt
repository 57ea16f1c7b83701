-- The rows of a report that tell what its field file recorded of instrument and time (profile).
use Rattle.std.specs.Prelude.{ℕ, List, [], ◌∷◌, ◌++◌, codes, decimal, Option, Some, None}
use Rattle.std.specs.Prelude.{if◌then◌else◌}
use Rattle.csv.specs.Writing.{row_text}
use Rattle.instrument_words.specs.Instrument.{ContentsValue, InstrumentValue}
use Rattle.instrument_words.specs.declared.instrument.TheConstants.{SERIAL_NUMBER, INSTRUMENT_TYPE, DATE}
use Rattle.instrument_words.specs.declared.instrument.TheConstants.{TIME_FORMAT_1, TIME_FORMAT_2}
use Rattle.row_forms.specs.Forms.{writer_of}
use Rattle.row_forms.specs.declared.form.RowForm.{RowForm}

-- A row that is none of an observation: what it is of, and two cells of it; and a cell without a
-- byte for each further title of the rows, which has this row as wide as the others. No station's
-- row is one like it: there each of these cells has a number.
abbrev pub further_row : List ℕ → List ℕ → List ℕ → List (List ℕ)
further_row kind name content =
    kind ∷ name ∷ content ∷ [] ∷ [] ∷ [] ∷ [] ∷ [] ∷ [] ∷ [] ∷ [] ∷ [] ∷ [] ∷ []

-- The row of a content of the words of an index: `recorded`, the index, the content as it stands.
-- It stands among names, so that a column of numbers has no content in it.
abbrev pub content_row : RowForm → ℕ → List ℕ → List ℕ
content_row form index content =
    row_text (writer_of form) (further_row (codes "recorded") (decimal index) content)

-- The rows of the words of an index: of the first content; and of the last, where one of them is
-- another than the first. Where nothing is told there is none.
abbrev pub index_rows : RowForm → ℕ → Option ContentsValue → List ℕ
index_rows form index None = []
index_rows form index (Some told) =
    content_row form index told.first
    ++ (if told.varies then content_row form index told.last else [])

-- The rows of all that was recorded.
abbrev pub recorded_rows : RowForm → InstrumentValue → List ℕ
recorded_rows form r =
    index_rows form SERIAL_NUMBER r.serial_number
    ++ (index_rows form INSTRUMENT_TYPE r.instrument_type
    ++ (index_rows form DATE r.date
    ++ (index_rows form TIME_FORMAT_1 r.time_format_1
    ++ index_rows form TIME_FORMAT_2 r.time_format_2)))

-- Rows in a form, and then those of what was recorded.
abbrev pub with_recorded_rows : RowForm → InstrumentValue → List ℕ → List ℕ
with_recorded_rows form recorded rows = rows ++ recorded_rows form recorded
