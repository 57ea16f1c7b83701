use Rattle.std.proofs.Common.{ℕ, List, Result, Some, Ok, Err, ap, rules}
use Rattle.std.specs.Global.{Global}
use Rattle.std.specs.Prelude.{MatchResult, Vec}
use Rattle.byte_ends.proofs.Coming.{came_as_told}
use Rattle.gsi_file.specs.FileAnswers.{FileAnswers, file_answers}
use Rattle.station_answers.specs.Answers.{HasNone, StatesOf, TellsOf}
use Rattle.station_book.specs.ResultLimits.{of_faces}
use Rattle.station_book.specs.Stations.{SurveyedStation}
use Rattle.station_book.specs.declared.result_limits.ResultLimits.{ResultLimits}
use Rattle.station_check.specs.Came.{source_of}
use Rattle.station_compare.specs.declared.fault.CompareFault.{CompareFault}
use Rattle.station_page.specs.Texts.{bytes_in}
use Rattle.station_page.proofs.station.hand_out_station.Goals as goal

-- What is told of a station, without where its text lies in memory.
tells : (Says : SurveyedStation → List ℕ → Type 0) (limits : ResultLimits) (file : FileAnswers)
    (name : List ℕ) (r : Result (Vec ℕ Global) CompareFault)
    → MatchResult r (λ text. StatesOf Says limits file name text.items) (HasNone limits file name)
    → TellsOf Says limits file name (bytes_in r)
tells Says limits file name (Ok text) h = h
tells Says limits file name (Err fault) h = h

pub returns : goal.returns
returns g c =
    let told = came_as_told _ _ c.answer_of-answer.ensures.came (source_of c.args.gsi.now)
    (ap Some c.source_of.ensures) in
    record {
      shows = λ face. record {
        limits = c.in-Some.faces;
        states = record { states_two_c = search rules; states_two_i = search rules };
        answer = bytes_in c.fault_alone.result;
        tells = tells _ (of_faces c.in-Some.faces) (file_answers (source_of c.args.gsi.now))
            c.args.name.now c.fault_alone.result
            (rw c.fault_alone.ensures (rw c.of_faces-limits.ensures at told.0));
        hands_out = c.hand_out_text.ensures.shows;
      };
      beyond = search rules;
      leaves = c.hand_out_text.ensures.leaves;
    }
