-- What is answered of the list of a field file's stations as rows.
use Rattle.std.specs.Prelude.{◌≡◌, ℕ, List, Result, Ok, Err, ⊤}
use Rattle.gsi_file.specs.FileAnswers.{FileAnswers}
use Rattle.list_rows.specs.RowTexts.{stations_text}
use Rattle.row_forms.specs.declared.form.RowForm.{RowForm}
use Rattle.station_book.specs.Limits.{FaceLimits}
use Rattle.station_book.specs.Stations.{SurveyedStation}
use Rattle.station_check.specs.NotedSurveys.{IsNotedSurvey}
use Rattle.station_check.specs.Outcomes.{FileComesTo}
use Rattle.station_check.specs.declared.fault.Fault.{Fault}
use Rattle.station_check.specs.declared.fault.Fault.TheVariants.{Memory}

-- A list as rows, and how many readings went unchecked.
pub record NotedText : Type 0 where
  pub text : List ℕ
  pub unchecked : ℕ

-- The file ended without a fault, the text has the rows of its stations in this form, and so many
-- of its readings went unchecked.
pub record IsListOfRows (form : RowForm) (limits : FaceLimits) (file : FileAnswers)
    (list : NotedText) : Type 0 where
  pub stations : List SurveyedStation
  pub survey : IsNotedSurvey limits file stations list.unchecked
  pub text_is : list.text ≡ stations_text form stations

-- The answer is that, or the file's first fault, as of the plain list; or that memory ran out.
abbrev pub TellsRows : RowForm → FaceLimits → FileAnswers → Result NotedText Fault → Type 0
TellsRows form limits file (Ok list) = IsListOfRows form limits file list
TellsRows form limits file (Err Memory) = ⊤
TellsRows form limits file (Err fault) = FileComesTo limits file (Err fault)
