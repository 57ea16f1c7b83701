-- The runs that say which bytes they judged.
use Rattle.std.specs.Prelude.{◌≡◌, ℕ, List, ◌++◌, Option, Result}
use Rattle.adjust_kernel.specs.declared.accepted.Accepted.{Accepted}
use Rattle.byte_digests.specs.DigestLines.{digest_line}
use Rattle.byte_ends.specs.Sink.{WriterChange}
use Rattle.byte_ends.specs.Source.{ReaderChange}
use Rattle.direction_table.specs.declared.form.TableForm.{TableForm}
use Rattle.gsi_file.specs.FileAnswers.{FileAnswers}
use Rattle.instrument_reports.specs.Answers.{SaysReportOf, SaysTableReportOf}
use Rattle.instrument_reports.specs.Printing.{as_printed}
use Rattle.report_phrases.specs.Phrases.{said}
use Rattle.report_phrases.specs.declared.phrase.Phrase.TheVariants as phrase
use Rattle.sha2.specs.Sha256.{sha256}
use Rattle.station_answers.specs.Answers.{TellsOf}
use Rattle.station_book.specs.Limits.{FaceLimits}
use Rattle.station_book.specs.Stations.{SurveyedStation}
use Rattle.station_book.specs.declared.result_limits.ResultLimits.{ResultLimits}
use Rattle.station_check.specs.Promise.{IsAnswer}
use Rattle.station_check.specs.RunEndings.{PrintsAnswer}
use Rattle.station_check.specs.VerdictLines.{accepted_line}
use Rattle.station_check.specs.declared.fault.Fault.{Fault}
use Rattle.station_check.specs.declared.fault.Fault.TheVariants as check
use Rattle.station_compare.specs.AgreementTexts.{agreement_line}
use Rattle.station_compare.specs.Hints.{IsHinted}
use Rattle.station_compare.specs.Refusals.{by_fault, unhinted}
use Rattle.station_compare.specs.Runs.{ReadsFieldFile}
use Rattle.station_compare.specs.declared.fault.CompareFault.{CompareFault}
use Rattle.station_compare.specs.declared.fault.CompareFault.TheVariants as compare
use Rattle.station_compare.specs.declared.refusal.Refusal.{Refusal}
use Rattle.station_report.specs.NoteTexts.{ReportHead}
use Rattle.table_answers.specs.Answers.{ReadsBoth, TellsBeside}
use Rattle.table_answers.specs.Comparisons.{SaysComparison, verdict}
use Rattle.table_answers.specs.Noting.{Noting}
use Rattle.table_answers.specs.Printing.{PrintsVerdict}
use Rattle.table_answers.specs.Refusing.{RefusesComparison}
use Rattle.table_answers.specs.Runs.{PrintsBeside}
use Rattle.table_answers.specs.Telling.{note_of}
use Rattle.table_answers.specs.declared.compared.Compared.{Compared}
use Rattle.table_report.specs.Stating.{ReportAsked, ReportValue}

-- The line of an answer, and then one for each of its two files: a digest and a name.
abbrev pub recorded_text : List ℕ → List ℕ → List ℕ → List ℕ → List ℕ → List ℕ
recorded_text line gsi gsi_name other other_name =
    line ++ (digest_line gsi gsi_name ++ digest_line other other_name)

-- A run of the check that is recorded: all that the check promises of its verdict, and how that was
-- printed. The digests are those of the very bytes that the two readers gave and that the promise
-- speaks of; at a refusal none is printed.
pub record IsRecordedCheck {A : Type 0} (limits : FaceLimits) (limit : Option ℕ)
    (gsi : ReaderChange) (gsi_name : List ℕ) (sheet : ReaderChange) (sheet_name : List ℕ)
    (r : Result A Fault) (out : WriterChange) : Type 0 where
  pub verdict : Result Accepted Fault
  pub answers : IsAnswer limits limit gsi sheet verdict
  pub printed : PrintsAnswer (λ a. recorded_text (accepted_line a)
      (sha256 answers.gsi_bytes) gsi_name (sha256 answers.sheet_bytes) sheet_name)
      check.Write verdict r out

-- A run of an answer of a station and a table that is recorded: all that is promised of the answer,
-- with the hint of a refusal, how it was printed with the digests of the very bytes that the two
-- readers gave and that the promise speaks of, and the note of the table.
pub record IsRecordedBoth {V A : Type 0}
    (Says : FileAnswers → SurveyedStation → List ℕ → V → Type 0)
    (Prints : List ℕ → List ℕ → V → Result A CompareFault → WriterChange → Type 0)
    (form : TableForm) (limits : ResultLimits) (gsi table : ReaderChange) (station : List ℕ)
    (r : Result A Refusal) (note : List ℕ) (out : WriterChange) : Type 0 where
  pub answer : Result (V × List ℕ) Refusal
  pub tells : ReadsBoth gsi table (by_fault answer) (λ file stated.
      TellsBeside (Noting (Says file) form) (RefusesComparison form limits) limits file stated
      station (by_fault answer)
      × IsHinted limits file station answer)
  pub printed : PrintsBeside (λ noted. Prints (sha256 tells.gsi_bytes) (sha256 tells.table_bytes)
      noted.0) answer r out
  pub noted : note ≡ note_of answer

-- What is made of a comparison: where the table agrees, its line and the two of the files.
abbrev pub PrintsRecorded : {A : Type 0} → List ℕ → List ℕ → List ℕ → List ℕ → Compared
    → Result A CompareFault → WriterChange → Type 0
PrintsRecorded gsi_name table_name gsi table compared r out =
    PrintsAnswer (λ a. recorded_text (agreement_line a) gsi gsi_name table table_name)
    compare.Write (verdict compared) r out

-- A recorded run of the comparison.
abbrev pub IsRecordedCompare : {A : Type 0} → TableForm → ResultLimits → Option ℕ → List ℕ
    → ReaderChange → List ℕ → ReaderChange → List ℕ → Result A Refusal → List ℕ
    → WriterChange → Type 0
IsRecordedCompare form limits within station gsi gsi_name table table_name r note out =
    IsRecordedBoth (λ _. SaysComparison form within limits) (PrintsRecorded gsi_name table_name) form
    limits gsi table station r note out

-- The text of a report of this head as it is printed, with the digest of its field file behind it.
abbrev pub recorded_report_text : ReportHead → List ℕ → List ℕ → List ℕ
recorded_report_text head gsi text = as_printed head.notes
    (text ++ (said head.notes.language phrase.Digests ++ digest_line gsi head.path))

-- The same of a report with a table: with the digests of the field file and of the table.
abbrev pub recorded_both_text : ReportAsked → List ℕ → List ℕ → List ℕ → List ℕ
recorded_both_text asked gsi table text = as_printed asked.head.notes
    (text ++ recorded_text (said asked.head.notes.language phrase.Digests) gsi asked.head.path table
    asked.table_path)

-- A run of what is answered of one station that is recorded: all that is promised of its text, with
-- the hint of a refusal, and how that was printed with a digest: that of the very bytes that the
-- reader gave and that the promise speaks of.
pub record IsRecordedOf {A : Type 0} (Says : FileAnswers → SurveyedStation → List ℕ → Type 0)
    (print : List ℕ → List ℕ → List ℕ) (limits : ResultLimits) (gsi : ReaderChange)
    (station : List ℕ) (r : Result A Refusal) (out : WriterChange) : Type 0 where
  pub answer : Result (List ℕ) Refusal
  pub tells : ReadsFieldFile gsi (by_fault answer)
      (λ file. TellsOf (Says file) limits file station (by_fault answer)
      × IsHinted limits file station answer)
  pub printed : PrintsAnswer (print (sha256 tells.came.given)) (unhinted compare.Write) answer r out

-- A recorded run of the report.
abbrev pub IsRecordedReport : {A : Type 0} → ReportHead → ResultLimits → ReaderChange → List ℕ
    → Result A Refusal → WriterChange → Type 0
IsRecordedReport head limits gsi station r out =
    IsRecordedOf (λ file. SaysReportOf file head limits) (recorded_report_text head) limits gsi
    station r out

-- What is made of a report with a table: its text and the digests, and its verdict.
abbrev pub PrintsRecordedReport : {A : Type 0} → ReportAsked → List ℕ → List ℕ → ReportValue
    → Result A CompareFault → WriterChange → Type 0
PrintsRecordedReport asked gsi table report r out =
    PrintsVerdict (recorded_both_text asked gsi table report.text) report.beyond r out

-- A recorded run of the report with a table.
abbrev pub IsRecordedTableReport : {A : Type 0} → ReportAsked → ResultLimits → ReaderChange
    → ReaderChange → List ℕ → Result A Refusal → List ℕ → WriterChange → Type 0
IsRecordedTableReport asked limits gsi table station r note out =
    IsRecordedBoth (λ file. SaysTableReportOf file asked limits) (PrintsRecordedReport asked)
    asked.form limits gsi table station r note out
