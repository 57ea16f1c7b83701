use Rattle.std.proofs.Common.{◌≡◌, List, ℕ, Err, Ok, length, refl, rules}
use Rattle.std.specs.Prelude.{MatchResult}
use Rattle.byte_ends.proofs.Coming.{came_so}
use Rattle.byte_ends.specs.Source.{Told}
use Rattle.gsi_file.specs.FileAnswers.{file_answers}
use Rattle.book_answers.proofs.FileLaws.{left_alone, left_of_all, none_named, told_of_all}
use Rattle.book_answers.specs.Answers.{IsRefusedOfAll, StatesAll}
use Rattle.book_answers.specs.OfStations.{IsRefusedOfOne}
use Rattle.book_answers.specs.Refusals.{of_no_one}
use Rattle.station_answers.proofs.AnswerLaws.{none_by_file}
use Rattle.station_check.specs.NotedSurveys.{NotesSurvey}
use Rattle.station_compare.proofs.Comparisons.{left_by_file}
use Rattle.station_compare.proofs.Hinting.{unhinted_file}
use Rattle.station_compare.specs.Faults.{of_file}
use Rattle.book_answers.proofs.answering.answer_of_all.Goals as goal

pub returns : goal.returns
returns g c =
    let says = g.A.StationAnswer.says c.args.asked.now c.args.limits in
    let limits = c.args.limits in
    let arrangement = c.args.arrangement in
    let found = c.in-Ok.found in
    let answer = c.text_of_each_alone-answer.result in
    let file = rw c.in-Ok.is at c.noted_stations_of_file-noted.ensures.surveys in
    let told = c.text_of_each_alone-answer.ensures in
    record {
      came = came_so _
          (λ (gsi : Told). NotesSurvey limits.faces (file_answers gsi) (Ok found))
          (λ (gsi : Told). MatchResult answer
          (λ text. StatesAll says limits arrangement (file_answers gsi) text.items)
          (IsRefusedOfAll says limits (file_answers gsi)))
          file.came
          (λ gsi survey. told_of_all limits (file_answers gsi) found.0
          (record {
            blocks = survey.blocks;
            file = survey.file;
            stations_are = survey.stations_are;
          })
          c.recall.ensures says arrangement (λ text. text.items) answer (search rules) told);
      left = left_of_all says (IsRefusedOfOne limits.residual) limits.residual found.0 _ answer _
          (left_alone limits.residual _ file.left) told file.left;
    }

pub returns-then-len-eq0 : goal.returns-then-len-eq0
returns-then-len-eq0 g c =
    let found = c.in-Ok.found in
    let file = rw c.in-Ok.is at c.noted_stations_of_file-noted.ensures.surveys in
    let none : length found.0 ≡ 0 = search rules in
    rw c.no_station.ensures (record {
      came = came_so _ _ _ file.came
          (λ gsi survey. λ name. (
            record {
              stations = found.0;
              survey = record {
                blocks = survey.blocks;
                file = survey.file;
                stations_are = survey.stations_are;
              };
              none = none_named name found.0 none;
            },
            record {
              stations = found.0;
              unchecked = found.1;
              survey = survey;
              hint_is = refl;
            },
          ));
      left = file.left;
    })

pub returns-in-Err : goal.returns-in-Err
returns-in-Err g c =
    let limits = c.args.limits in
    let fault = c.in-Err.fault in
    let file = rw c.in-Err.is at c.noted_stations_of_file-noted.ensures.surveys in
    let own = rw c.in-Err.is at c.noted_stations_of_file-noted.ensures.of_file in
    let is_its : c.from-in-Err.result ≡ of_no_one (of_file fault) = search rules in
    rw is_its (record {
      came = came_so _ _ _ file.came
          (λ gsi survey. λ name. (
            none_by_file limits (file_answers gsi) name fault own survey,
            unhinted_file limits (file_answers gsi) name fault own,
          ));
      left = left_by_file {B = List ℕ} c.noted_stations_of_file-noted.result.0 fault
          (Err (of_file fault)) _ c.in-Err.is refl
          c.noted_stations_of_file-noted.ensures.surveys.left;
    })
