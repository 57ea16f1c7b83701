-- All that is answered of a station beside a table, of one adjustment, in one text.
use Rattle.std.specs.Prelude.{◌≡◌, ℕ, List, ◌++◌, codes, Option, Some, None, Result, Ok, Err}
use Rattle.byte_ends.specs.Sink.{WriterChange}
use Rattle.station_answers.specs.Parts.{part_text}
use Rattle.station_book.specs.Stations.{SurveyedStation}
use Rattle.station_book.specs.declared.result_limits.ResultLimits.{ResultLimits}
use Rattle.station_compare.specs.AgreementTexts.{agreement_line}
use Rattle.station_compare.specs.FaultTexts.{refusal_line}
use Rattle.station_compare.specs.declared.agreement.Agreement.{Agreement}
use Rattle.station_compare.specs.declared.fault.CompareFault.{CompareFault}
use Rattle.station_compare.specs.declared.how_far.HowFar.{HowFar}
use Rattle.row_forms.specs.declared.form.RowForm.TheVariants.{Commas}
use Rattle.station_differences.specs.Stating.{IsDifferencesText}
use Rattle.station_differences.specs.declared.line_form.LineForm.TheVariants.{Rows}
use Rattle.table_answers.specs.ColumnRows.{table_columns}
use Rattle.table_answers.specs.Comparisons.{SaysComparison, verdict}
use Rattle.table_answers.specs.Printing.{PrintsVerdict}
use Rattle.table_answers.specs.VerdictRows.{verdict_rows}
use Rattle.table_answers.specs.declared.compared.Compared.{Compared}
use Rattle.table_answers.specs.declared.compared.Compared.TheVariants as compared
use Rattle.table_answers.specs.declared.whole.WholeTable.{WholeTable}
use Rattle.table_report.specs.Stating.{IsReportOfTable, ReportAsked}

-- how far a table is apart, where that is beyond its limit
abbrev pub beyond_in : Compared → Option HowFar
beyond_in (compared.Agrees agreement) = None
beyond_in (compared.Apart how_far) = Some how_far

-- the line of a verdict: that of the agreement, or of the refusal
abbrev pub verdict_line : Result Agreement CompareFault → List ℕ
verdict_line (Ok agreement) = agreement_line agreement
verdict_line (Err fault) = refusal_line fault

-- the parts of every verdict: its line, and its row
abbrev pub verdict_parts : Result Agreement CompareFault → List ℕ
verdict_parts v =
    part_text (codes "line") (verdict_line v) ++ part_text (codes "verdict") (verdict_rows v)

-- the parts of a table that was compared: those of its verdict, the columns by which it was read,
-- its differences, and the report
abbrev pub whole_text : Compared → List ℕ → List ℕ → List ℕ → List ℕ
whole_text compared columns differences report =
    verdict_parts (verdict compared)
    ++ (part_text (codes "columns") columns
    ++ (part_text (codes "differences") differences
    ++ part_text (codes "report") report))

-- A table that was compared, and the text of its parts.
pub record WholeValue : Type 0 where
  pub compared : Compared
  pub text : List ℕ

-- the same, without where it lies in memory
abbrev pub whole_value : WholeTable → WholeValue
whole_value whole = record { compared = whole.compared; text = whole.text.items }

-- The text is printed whole, and then the verdict is answered.
abbrev pub PrintsWhole : {A : Type 0} → WholeValue → Result A CompareFault → WriterChange → Type 0
PrintsWhole whole r out = PrintsVerdict whole.text (beyond_in whole.compared) r out

-- These are the parts of a station and the bytes of a table, as the report is asked for: the
-- comparison, the columns by which the bytes are read, the differences, and the report, which says
-- the same of how far the table is apart.
pub record IsWhole (asked : ReportAsked) (limits : ResultLimits) (its : SurveyedStation)
    (bytes : List ℕ) (whole : WholeValue) : Type 0 where
  pub compares : SaysComparison asked.form asked.within limits its bytes whole.compared
  pub differences : List ℕ
  pub are_differences : IsDifferencesText asked.form (Rows Commas) its.station bytes differences
  pub report : List ℕ
  pub is_report : IsReportOfTable asked limits its bytes
      (record { text = report; beyond = beyond_in whole.compared })
  pub text_is : whole.text ≡ whole_text whole.compared
      (table_columns asked.form its.station.targets bytes) differences report
