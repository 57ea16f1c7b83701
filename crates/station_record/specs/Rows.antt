-- The rows of a report that say which bytes they were made of.
use Rattle.std.specs.Prelude.{ℕ, List, ◌++◌, codes, Result}
use Rattle.byte_ends.specs.Sink.{WriterChange}
use Rattle.byte_ends.specs.Source.{ReaderChange}
use Rattle.csv.specs.Writing.{row_text}
use Rattle.hex.specs.Hex.{encode_lower}
use Rattle.instrument_reports.specs.Answers.{SaysRowsOf}
use Rattle.instrument_reports.specs.Rows.{further_row}
use Rattle.row_forms.specs.Forms.{writer_of}
use Rattle.row_forms.specs.declared.form.RowForm.{RowForm}
use Rattle.station_book.specs.declared.result_limits.ResultLimits.{ResultLimits}
use Rattle.station_compare.specs.declared.refusal.Refusal.{Refusal}
use Rattle.station_record.specs.Recorded.{IsRecordedOf}

-- The row of a field file: `file`, its path as typed, its digest in 64 hexadecimal digits.
abbrev pub file_row : List ℕ → List ℕ → List (List ℕ)
file_row path digest = further_row (codes "file") path (encode_lower digest)

-- The rows of a report in a form, and then that of their field file, which has this digest.
abbrev pub recorded_rows_text : RowForm → List ℕ → List ℕ → List ℕ → List ℕ
recorded_rows_text form path digest rows = rows ++ row_text (writer_of form) (file_row path digest)

-- A recorded run of the rows.
abbrev pub AreRecordedRows : {A : Type 0} → RowForm → List ℕ → ResultLimits → ReaderChange → List ℕ
    → Result A Refusal → WriterChange → Type 0
AreRecordedRows form path limits gsi station r out =
    IsRecordedOf (λ file. SaysRowsOf file form) (recorded_rows_text form path) limits gsi station r
    out
