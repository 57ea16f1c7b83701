use Rattle.std.proofs.Common.{◌≡◌, ℕ, List, Ok, Err, ap, refl, rules, sym, ◌∙◌, option_copied}
use Rattle.std.specs.Prelude.{MatchResult}
use Rattle.byte_ends.proofs.Coming.{came_so}
use Rattle.byte_ends.specs.Source.{Told}
use Rattle.gsi_file.specs.FileAnswers.{file_answers}
use Rattle.station_answers.proofs.AnswerLaws.{answers_by_station, left_by_station, none_by_file}
use Rattle.station_answers.specs.Answers.{HasNone, StatesOf}
use Rattle.station_check.specs.NotedSurveys.{NotesSurvey}
use Rattle.station_check.proofs.LawLemmas.{station_of_file}
use Rattle.station_compare.proofs.Comparisons.{left_by_file}
use Rattle.station_compare.proofs.Hinting.{fault_of_hinted, unhinted_file}
use Rattle.station_compare.specs.Faults.{of_file}
use Rattle.station_compare.specs.Hints.{IsHinted}
use Rattle.station_compare.specs.Refusals.{by_fault, hinted, unhinted}
use Rattle.station_answers.proofs.answering.answer_of.Goals as goal

pub returns : goal.returns
returns g c =
    let says = g.A.StationAnswer.says c.args.asked.now c.args.limits in
    let limits = c.args.limits in
    let name = c.args.name.now in
    let found = c.in-Ok.found in
    let its = c.in-Some.surveyed.now in
    let answer = c.text_of-answer.result in
    let file = rw c.in-Ok.is at c.noted_stations_of_file-noted.ensures.surveys in
    let text = c.text_of-answer.ensures.text in
    rw (c.hinted.ensures, c.station.ensures) (record {
      came = came_so _
          (λ (gsi : Told). NotesSurvey limits.faces (file_answers gsi) (Ok found))
          (λ (gsi : Told).
          MatchResult (by_fault (hinted its.station limits.residual answer))
          (λ text. StatesOf says limits (file_answers gsi) name text.items)
          (HasNone limits (file_answers gsi) name)
          × IsHinted limits (file_answers gsi) name (hinted its.station limits.residual answer))
          file.came
          (λ gsi survey.
          answers_by_station says limits (file_answers gsi) name (λ text. text.items) its answer
          ((station_of_file limits.faces (file_answers gsi) name its c.recall.ensures).0
          (record {
            stations = found.0;
            survey = record {
              blocks = survey.blocks;
              file = survey.file;
              stations_are = survey.stations_are;
            };
            named = sym c.get.ensures ∙ ap option_copied c.in-Some.is;
          }))
          text c.text_of-answer.ensures.held);
      left = rw (fault_of_hinted its.station limits.residual answer)
          (left_by_station (λ text. says its text.items) its.station limits.residual answer _
          text file.left);
    })

pub returns-in_default : goal.returns-in_default
returns-in_default g c =
    let found = c.in-Ok.found in
    let file = rw c.in-Ok.is at c.noted_stations_of_file-noted.ensures.surveys in
    record {
      came = came_so _ _ _ file.came
          (λ gsi survey. (
            record {
              stations = found.0;
              survey = record {
                blocks = survey.blocks;
                file = survey.file;
                stations_are = survey.stations_are;
              };
              none = sym c.get.ensures ∙ ap option_copied c.in_default.is;
            },
            record {
              stations = found.0;
              unchecked = found.1;
              survey = survey;
              hint_is = c.stations_hint-hint.ensures;
            },
          ));
      left = file.left;
    }

pub returns-in-Err : goal.returns-in-Err
returns-in-Err g c =
    let limits = c.args.limits in
    let name = c.args.name.now in
    let fault = c.in-Err.fault in
    let file = rw c.in-Err.is at c.noted_stations_of_file-noted.ensures.surveys in
    let own = rw c.in-Err.is at c.noted_stations_of_file-noted.ensures.of_file in
    let is_its : c.from-in-Err.result ≡ unhinted (of_file fault) = search rules in
    rw is_its (record {
      came = came_so _ _ _ file.came
          (λ gsi survey. (
            none_by_file limits (file_answers gsi) name fault own survey,
            unhinted_file limits (file_answers gsi) name fault own,
          ));
      left = left_by_file {B = List ℕ} c.noted_stations_of_file-noted.result.0 fault
          (Err (of_file fault)) _ c.in-Err.is refl
          c.noted_stations_of_file-noted.ensures.surveys.left;
    })
