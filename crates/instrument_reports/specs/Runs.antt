-- What the answer of a run says, and what `out` got.
use Rattle.std.specs.Prelude.{◌≡◌, ℕ, List, Result}
use Rattle.book_answers.specs.Refusals.{fault_of, of_no_one}
use Rattle.book_answers.specs.declared.arrangement.Arrangement.TheVariants.{Pages, Rows}
use Rattle.book_answers.specs.declared.refusal.StationRefusal.{StationRefusal}
use Rattle.byte_ends.specs.Sink.{WriterChange}
use Rattle.byte_ends.specs.Source.{ReaderChange}
use Rattle.gsi_file.specs.FileAnswers.{FileAnswers}
use Rattle.instrument_reports.specs.Answers.{SaysReportOf, SaysRowsOf, SaysTableReportOf}
use Rattle.instrument_reports.specs.Answers.{TellsAll}
use Rattle.instrument_reports.specs.Printing.{as_printed}
use Rattle.instrument_reports.specs.Rows.{with_recorded_rows}
use Rattle.instrument_words.specs.Below.{on_pages}
use Rattle.report_rows.specs.Stating.{AreReportRows}
use Rattle.row_forms.specs.declared.form.RowForm.{RowForm}
use Rattle.station_answers.specs.Answers.{TellsOf}
use Rattle.station_answers.specs.Saying.{SaysReport}
use Rattle.station_book.specs.Stations.{SurveyedStation}
use Rattle.station_book.specs.declared.result_limits.ResultLimits.{ResultLimits}
use Rattle.station_check.specs.RunEndings.{PrintsAnswer}
use Rattle.station_compare.specs.Hints.{IsHinted}
use Rattle.station_compare.specs.Refusals.{by_fault, unhinted}
use Rattle.station_compare.specs.Runs.{ReadsFieldFile}
use Rattle.station_compare.specs.declared.fault.CompareFault.TheVariants.{Write}
use Rattle.station_compare.specs.declared.refusal.Refusal.{Refusal}
use Rattle.station_report.specs.NoteTexts.{ReportHead}
use Rattle.table_answers.specs.Answers.{ReadsBoth, TellsBeside}
use Rattle.table_answers.specs.Noting.{Noting}
use Rattle.table_answers.specs.Printing.{PrintsVerdict}
use Rattle.table_answers.specs.Refusing.{RefusesComparison}
use Rattle.table_answers.specs.Runs.{PrintsBeside}
use Rattle.table_answers.specs.Telling.{note_of}
use Rattle.table_report.specs.Stating.{ReportAsked, ReportValue}

-- A run of what is answered of one station: all that it promises of its answer, with the hint of a
-- refusal, and how the text was printed.
pub record IsRunOf {A : Type 0} (Says : FileAnswers → SurveyedStation → List ℕ → Type 0)
    (print : List ℕ → List ℕ) (limits : ResultLimits) (gsi : ReaderChange) (name : List ℕ)
    (r : Result A Refusal) (out : WriterChange) : Type 0 where
  pub answer : Result (List ℕ) Refusal
  pub tells : ReadsFieldFile gsi (by_fault answer) (λ file.
      TellsOf (Says file) limits file name (by_fault answer) × IsHinted limits file name answer)
  pub printed : PrintsAnswer print (unhinted Write) answer r out

-- A run of the report,
abbrev pub IsReportRun : {A : Type 0} → ReportHead → ResultLimits → ReaderChange → List ℕ
    → Result A Refusal → WriterChange → Type 0
IsReportRun head limits gsi name r out =
    IsRunOf (λ file. SaysReportOf file head limits) (as_printed head.notes) limits gsi name r out

-- and of its rows.
abbrev pub IsReportRowsRun : {A : Type 0} → RowForm → ResultLimits → ReaderChange → List ℕ
    → Result A Refusal → WriterChange → Type 0
IsReportRowsRun form limits gsi name r out =
    IsRunOf (λ file. SaysRowsOf file form) (λ rows. rows) limits gsi name r out

-- A run of what is answered of all stations.
pub record IsRunOfEach {A : Type 0} (Tells : FileAnswers → Result (List ℕ) StationRefusal → Type 0)
    (print : List ℕ → List ℕ) (gsi : ReaderChange) (r : Result A StationRefusal)
    (out : WriterChange) : Type 0 where
  pub answer : Result (List ℕ) StationRefusal
  pub tells : ReadsFieldFile gsi (fault_of answer) (λ file. Tells file answer)
  pub printed : PrintsAnswer print (of_no_one Write) answer r out

-- A run of the reports of all stations in one text, on each page of which is what was recorded,
abbrev pub IsReportsRun : {A : Type 0} → ReportHead → ResultLimits → ReaderChange
    → Result A StationRefusal → WriterChange → Type 0
IsReportsRun head limits gsi r out =
    IsRunOfEach (TellsAll (on_pages head.notes.language) (SaysReport head limits) limits Pages)
    (as_printed head.notes) gsi r out

-- and of their rows under one line of titles, after which stand those of what was recorded.
abbrev pub IsReportRowsRunOfAll : {A : Type 0} → RowForm → ResultLimits → ReaderChange
    → Result A StationRefusal → WriterChange → Type 0
IsReportRowsRunOfAll form limits gsi r out =
    IsRunOfEach (TellsAll (with_recorded_rows form) (AreReportRows form) limits Rows)
    (λ rows. rows) gsi r out

-- A run of the report with a table, and the note of the table.
pub record IsTableReportRun {A : Type 0} (asked : ReportAsked) (limits : ResultLimits)
    (gsi table : ReaderChange) (name : List ℕ) (r : Result A Refusal) (note : List ℕ)
    (out : WriterChange) : Type 0 where
  pub answer : Result (ReportValue × List ℕ) Refusal
  pub tells : ReadsBoth gsi table (by_fault answer) (λ file stated.
      TellsBeside (Noting (SaysTableReportOf file asked limits) asked.form)
      (RefusesComparison asked.form limits) limits file stated name (by_fault answer)
      × IsHinted limits file name answer)
  pub printed : PrintsBeside (λ noted.
      PrintsVerdict (as_printed asked.head.notes noted.0.text) noted.0.beyond) answer r out
  pub noted : note ≡ note_of answer
