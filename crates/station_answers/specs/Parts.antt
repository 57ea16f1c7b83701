-- All that is answered of a station, in one text.
use Rattle.std.specs.Prelude.{◌≡◌, ℕ, List, [], ◌++◌, codes, decimal, length}
use Rattle.report_rows.specs.Stating.{AreReportRows}
use Rattle.row_forms.specs.declared.form.RowForm.TheVariants.{Commas}
use Rattle.station_answers.specs.Accuracy.{IsAccuracyText}
use Rattle.station_answers.specs.Directions.{IsDirectionsText}
use Rattle.station_answers.specs.Faces.{faces_text}
use Rattle.station_book.specs.Stations.{SurveyedStation}
use Rattle.station_book.specs.declared.result_limits.ResultLimits.{ResultLimits}
use Rattle.station_report.specs.NoteTexts.{unnoted}
use Rattle.station_report.specs.Stating.{IsReportText}

-- a part of a text: a line of its title and of how many bytes it has, and the part itself
abbrev pub part_text : List ℕ → List ℕ → List ℕ
part_text title part =
    title ++ (codes " " ++ (decimal (length part) ++ (codes "\n" ++ part)))

-- the table of the directions, the rows, the accuracy, the face differences and the report in one
-- text
abbrev pub whole_text : List ℕ → List ℕ → List ℕ → List ℕ → List ℕ → List ℕ
whole_text directions rows accuracy faces report =
    part_text (codes "directions") directions
    ++ (part_text (codes "rows") rows
    ++ (part_text (codes "accuracy") accuracy
    ++ (part_text (codes "faces") faces
    ++ part_text (codes "report") report)))

-- This is all that is answered of a station: the table of its directions, with so many decimals,
-- the rows of its report with commas between cells, how accurate it is, what its face differences
-- say together, and its report, which names the field file by this path, notes nothing and states
-- these limits.
pub record IsWholeText (count : ℕ) (path : List ℕ) (limits : ResultLimits) (its : SurveyedStation)
    (text : List ℕ) : Type 0 where
  pub directions : List ℕ
  pub are_directions : IsDirectionsText Commas its.station count directions
  pub rows : List ℕ
  pub are_rows : AreReportRows Commas its rows
  pub accuracy : List ℕ
  pub is_accuracy : IsAccuracyText its.station accuracy
  pub report : List ℕ
  pub is_report : IsReportText (unnoted path) limits its [] report
  pub text_is : text ≡ whole_text directions rows accuracy (faces_text its) report
