-- What reports say, with what their field file recorded of instrument and time.
use Rattle.std.specs.Prelude.{◌≡◌, ℕ, List, Result, Ok, Err}
use Rattle.book_answers.specs.Answers.{IsRefusedOfAll, StatesAll}
use Rattle.book_answers.specs.declared.arrangement.Arrangement.{Arrangement}
use Rattle.book_answers.specs.declared.refusal.StationRefusal.{StationRefusal}
use Rattle.gsi_file.specs.FileAnswers.{FileAnswers}
use Rattle.gsi_word.specs.Blocks.{GsiBlock}
use Rattle.instrument_reports.specs.Rows.{with_recorded_rows}
use Rattle.instrument_words.specs.Below.{on_pages}
use Rattle.instrument_words.specs.Instrument.{AreBlocksOf, InstrumentValue, instrument_of}
use Rattle.report_rows.specs.Stating.{AreReportRows}
use Rattle.row_forms.specs.declared.form.RowForm.{RowForm}
use Rattle.station_answers.specs.Saying.{SaysReport}
use Rattle.station_book.specs.Stations.{SurveyedStation}
use Rattle.station_book.specs.declared.result_limits.ResultLimits.{ResultLimits}
use Rattle.station_report.specs.NoteTexts.{ReportHead}
use Rattle.table_answers.specs.Saying.{SaysTableReport}
use Rattle.table_report.specs.Stating.{ReportAsked, ReportValue}

-- How a text is made of one, and of what its field file recorded of instrument and time.
abbrev pub Putting : Type 0
Putting = InstrumentValue → List ℕ → List ℕ

-- A text that is made so of one of which this is so, and of what this field file recorded of
-- instrument and time.
pub record TellsInstrument (put : Putting) (file : FileAnswers) (IsOwn : List ℕ → Type 0)
    (text : List ℕ) : Type 0 where
  pub own : List ℕ
  pub is_own : IsOwn own
  pub blocks : List GsiBlock
  pub of_file : AreBlocksOf file blocks
  pub text_is : text ≡ put (instrument_of blocks) own

-- What this says of a station, made so with what its file recorded.
abbrev pub SaysWith : Putting → (SurveyedStation → List ℕ → Type 0) → FileAnswers
    → SurveyedStation → List ℕ → Type 0
SaysWith put Says file = λ its text. TellsInstrument put file (Says its) text

-- The report of a station of this file, with what the file recorded on each page.
abbrev pub SaysReportOf : FileAnswers → ReportHead → ResultLimits → SurveyedStation → List ℕ
    → Type 0
SaysReportOf file head limits =
    SaysWith (on_pages head.notes.language) (SaysReport head limits) file

-- The same of the report with a table.
abbrev pub SaysTableReportOf : FileAnswers → ReportAsked → ResultLimits → SurveyedStation → List ℕ
    → ReportValue → Type 0
SaysTableReportOf file asked limits = λ its bytes report.
    TellsInstrument (on_pages asked.head.notes.language) file
    (λ own. SaysTableReport asked limits its bytes (record { text = own; beyond = report.beyond }))
    report.text

-- The rows of the report of a station of this file in a form, and then those of what the file
-- recorded.
abbrev pub SaysRowsOf : FileAnswers → RowForm → SurveyedStation → List ℕ → Type 0
SaysRowsOf file form = SaysWith (with_recorded_rows form) (AreReportRows form) file

-- The texts of all stations in one, of each what this says, arranged so, and made so with what
-- their file recorded, once; or why there is none.
abbrev pub TellsAll : Putting → (SurveyedStation → List ℕ → Type 0) → ResultLimits → Arrangement
    → FileAnswers → Result (List ℕ) StationRefusal → Type 0
TellsAll put Says limits arrangement file (Ok text) =
    TellsInstrument put file (StatesAll Says limits arrangement file) text
TellsAll put Says limits arrangement file (Err refused) = IsRefusedOfAll Says limits file refused
