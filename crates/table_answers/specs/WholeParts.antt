-- What the parts of all that is answered of a table are: each the answer that stands alone.
use Rattle.std.specs.Prelude.{◌≡◌, ℕ, List}
use Rattle.byte_ends.specs.Source.{Told}
use Rattle.gsi_file.specs.FileAnswers.{FileAnswers}
use Rattle.station_book.specs.declared.result_limits.ResultLimits.{ResultLimits}
use Rattle.row_forms.specs.declared.form.RowForm.TheVariants.{Commas}
use Rattle.station_differences.specs.declared.line_form.LineForm.TheVariants.{Rows}
use Rattle.table_answers.specs.Answers.{StatesBeside}
use Rattle.table_answers.specs.ColumnRows.{table_columns}
use Rattle.table_answers.specs.Comparisons.{SaysComparison}
use Rattle.table_answers.specs.Saying.{SaysDifferences, SaysTableReport}
use Rattle.table_answers.specs.Wholes.{WholeValue, beyond_in, whole_text}
use Rattle.table_report.specs.Stating.{ReportAsked}

-- Of what came of both readers the text has the verdict of the comparison, the differences and the
-- report: each of them is what is answered where it alone is asked for. And it has the columns by
-- which the table was read.
pub record HasPartsBeside (asked : ReportAsked) (limits : ResultLimits) (file : FileAnswers)
    (stated : Told) (name : List ℕ) (whole : WholeValue) : Type 0 where
  pub states_comparison : StatesBeside (SaysComparison asked.form asked.within limits) limits file
      stated name whole.compared
  pub columns : List ℕ
  pub states_columns : StatesBeside (λ its bytes text.
      text ≡ table_columns asked.form its.station.targets bytes) limits file stated name columns
  pub differences : List ℕ
  pub states_differences : StatesBeside (SaysDifferences asked.form (Rows Commas)) limits file
      stated name differences
  pub report : List ℕ
  pub states_report : StatesBeside (SaysTableReport asked limits) limits file stated name
      (record { text = report; beyond = beyond_in whole.compared })
  pub text_is : whole.text ≡ whole_text whole.compared columns differences report
