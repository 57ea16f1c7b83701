-- What a printed report says of a station, in the order of the sentence: the text has the readings
-- and the face differences, the zenith angles and their means by target, the adjusted directions,
-- the residuals, the greatest residual, and how accurate directions are: least over all directions,
-- orientations and full turns, each number rounded once.
use Rattle.std.specs.Prelude.{◌≡◌, ℕ, List, Option}
use Rattle.adjust_kernel.specs.Stations.{StationValue}
use Rattle.adjust_kernel.specs.declared.units.TheConstants.{UNIT}
use Rattle.least_directions.specs.LeastDirections.{AreRounded}
use Rattle.station_book.specs.declared.result_limits.ResultLimits.{ResultLimits}
use Rattle.station_book.specs.Stations.{SurveyedStation}
use Rattle.station_report.specs.Deviations.{IsAccuracy}
use Rattle.station_report.specs.NoteTexts.{ReportHead}
use Rattle.station_report.specs.ReportTexts.{report_text}
use Rattle.station_report.specs.declared.accuracy.Accuracy.{Accuracy}
use Rattle.station_results.specs.Greatest.{IsGreatest}
use Rattle.station_results.specs.Residuals.{AreAdjusted}
use Rattle.station_results.specs.declared.adjusted.AdjustedObs.{AdjustedObs}

-- This was computed of a station: its adjusted directions, its observations with their residuals,
-- the place of the greatest residual, and the accuracy of its directions.
pub record IsComputed (station : StationValue) (directions : List ℕ) (rows : List AdjustedObs)
    (greatest : ℕ) (accuracy : Option Accuracy) : Type 0 where
  -- The least-squares directions, counted from the first, each rounded to 0.000001 gon.
  pub rounded : AreRounded station UNIT directions
  -- The observations, in their order, with their residuals, each rounded to 0.001 mgon.
  pub adjusted : AreAdjusted station rows
  pub is_greatest : IsGreatest rows greatest
  -- The sum of the squares of all residuals and the standard deviations, each rounded once.
  pub is_accuracy : IsAccuracy station accuracy

-- This is the text of the report of a station, with this section after its adjusted directions.
pub record IsReportText (head : ReportHead) (limits : ResultLimits) (its : SurveyedStation)
    (section text : List ℕ) : Type 0 where
  pub directions : List ℕ
  pub rows : List AdjustedObs
  pub greatest : ℕ
  pub accuracy : Option Accuracy
  pub computed : IsComputed its.station directions rows greatest accuracy
  pub text_is : text ≡ report_text head limits its directions section rows greatest accuracy
