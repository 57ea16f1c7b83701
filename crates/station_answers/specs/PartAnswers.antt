-- What the parts of all that is answered of a station are: each the answer that stands alone.
use Rattle.std.specs.Prelude.{◌≡◌, ℕ, List}
use Rattle.gsi_file.specs.FileAnswers.{FileAnswers}
use Rattle.report_rows.specs.Stating.{AreReportRows}
use Rattle.row_forms.specs.declared.form.RowForm.TheVariants.{Commas}
use Rattle.station_answers.specs.Accuracy.{IsAccuracyText}
use Rattle.station_answers.specs.Answers.{StatesOf}
use Rattle.station_answers.specs.Faces.{faces_text}
use Rattle.station_answers.specs.Parts.{whole_text}
use Rattle.station_answers.specs.Saying.{SaysDirections, SaysReport}
use Rattle.station_book.specs.declared.result_limits.ResultLimits.{ResultLimits}
use Rattle.station_report.specs.NoteTexts.{unnoted}

-- Of these lines, this text of the station of this name has its directions, its rows, how accurate
-- it is, what its face differences say together, and its report: directions, rows and report are
-- each the text that is answered where it alone is asked for.
pub record HasPartsOf (count : ℕ) (path : List ℕ) (limits : ResultLimits) (file : FileAnswers)
    (name text : List ℕ) : Type 0 where
  pub directions : List ℕ
  pub states_directions : StatesOf (SaysDirections Commas count) limits file name directions
  pub rows : List ℕ
  pub states_rows : StatesOf (AreReportRows Commas) limits file name rows
  pub accuracy : List ℕ
  pub states_accuracy : StatesOf (λ its. IsAccuracyText its.station) limits file name accuracy
  pub faces : List ℕ
  pub states_faces : StatesOf (λ its text. text ≡ faces_text its) limits file name faces
  pub report : List ℕ
  pub states_report : StatesOf (SaysReport (unnoted path) limits) limits file name report
  pub text_is : text ≡ whole_text directions rows accuracy faces report
