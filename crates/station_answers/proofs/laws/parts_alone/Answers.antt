use Rattle.std.proofs.Common.{ℕ, List, refl}
use Rattle.gsi_file.specs.FileAnswers.{FileAnswers}
use Rattle.station_answers.specs.Answers.{StatesOf}
use Rattle.station_answers.specs.Faces.{faces_text}
use Rattle.station_answers.specs.Saying.{SaysWhole}
use Rattle.station_book.specs.Stations.{SurveyedStation}
use Rattle.station_book.specs.declared.result_limits.ResultLimits.{ResultLimits}
use Rattle.station_answers.proofs.laws.parts_alone.Goals as goal

-- What another text says of the same station is answered too, where it is asked for.
answered : {Says : SurveyedStation → List ℕ → Type 0} (limits : ResultLimits) (file : FileAnswers)
    (name path text : List ℕ) (count : ℕ)
    → (s : StatesOf (SaysWhole count path limits) limits file name text) → (part : List ℕ)
    → Says s.its part → StatesOf Says limits file name part
answered limits file name path text count s part said =
    record { its = s.its; station = s.station; held = s.held; said = said }

pub returns : goal.returns
returns c = λ limits file name path text count s.
    let whole = s.said in
    record {
      directions = whole.directions;
      states_directions = answered limits file name path text count s whole.directions
          whole.are_directions;
      rows = whole.rows;
      states_rows = answered limits file name path text count s whole.rows whole.are_rows;
      accuracy = whole.accuracy;
      states_accuracy = answered limits file name path text count s whole.accuracy
          whole.is_accuracy;
      faces = faces_text s.its;
      states_faces = answered limits file name path text count s (faces_text s.its) refl;
      report = whole.report;
      states_report = answered limits file name path text count s whole.report whole.is_report;
      text_is = whole.text_is;
    }
