-- What the text of each answer says of a station.
use Rattle.std.specs.Prelude.{ℕ, List, []}
use Rattle.row_forms.specs.declared.form.RowForm.{RowForm}
use Rattle.station_answers.specs.Directions.{IsDirectionsText}
use Rattle.station_answers.specs.Parts.{IsWholeText}
use Rattle.station_book.specs.Stations.{SurveyedStation}
use Rattle.station_book.specs.declared.result_limits.ResultLimits.{ResultLimits}
use Rattle.station_report.specs.NoteTexts.{ReportHead}
use Rattle.station_report.specs.Stating.{IsReportText}
use Rattle.station_residuals.specs.Stating.{IsResidualsText}

-- The table of its directions, in a form and with so many decimals.
abbrev pub SaysDirections : RowForm → ℕ → SurveyedStation → List ℕ → Type 0
SaysDirections form count = λ its text. IsDirectionsText form its.station count text

-- Its residuals.
abbrev pub SaysResiduals : SurveyedStation → List ℕ → Type 0
SaysResiduals = λ its text. IsResidualsText its.station text

-- Its report, which has this in its head and states these limits.
abbrev pub SaysReport : ReportHead → ResultLimits → SurveyedStation → List ℕ → Type 0
SaysReport head limits = λ its text. IsReportText head limits its [] text

-- All of these but the residuals alone, in one: the directions with so many decimals, the rows, how
-- accurate it is, and the report.
abbrev pub SaysWhole : ℕ → List ℕ → ResultLimits → SurveyedStation → List ℕ → Type 0
SaysWhole count path limits = λ its text. IsWholeText count path limits its text
