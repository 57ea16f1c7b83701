-- What the printed rows of a report say of a station, in the order of the sentence: the text has a
-- row of titles and a row for each observation, with its readings, its face differences, its
-- adjusted direction and its residual, least over all directions, orientations and full turns, each
-- rounded once, and its zenith angles.
use Rattle.std.specs.Prelude.{◌≡◌, ℕ, List}
use Rattle.report_rows.specs.RowTexts.{report_rows_text}
use Rattle.row_forms.specs.declared.form.RowForm.{RowForm}
use Rattle.station_book.specs.Stations.{SurveyedStation}
use Rattle.station_results.specs.Residuals.{AreAdjusted}
use Rattle.station_results.specs.declared.adjusted.AdjustedObs.{AdjustedObs}

-- This is the text of the rows of a station's report in a form.
pub record AreReportRows (form : RowForm) (its : SurveyedStation) (text : List ℕ)
    : Type 0 where
  pub rows : List AdjustedObs
  pub adjusted : AreAdjusted its.station rows
  pub text_is : text ≡ report_rows_text form its rows
