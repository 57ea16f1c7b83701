use Rattle.std.proofs.Common.{◌≡◌, rules, [], Err, ap, refl, sym, ◌∙◌}
use Rattle.std.proofs.Common.{option_copied}
use Rattle.byte_ends.proofs.Coming.{given_none, some_left}
use Rattle.byte_ends.specs.Input.{input_within}
use Rattle.byte_ends.specs.Source.{given_then}
use Rattle.direction_table.specs.declared.reading.TheConstants.{LONGEST_TABLE}
use Rattle.station_check.proofs.LawLemmas.{station_of_file}
use Rattle.station_compare.proofs.Comparisons.{left_alone, left_by_file}
use Rattle.station_compare.proofs.Hinting.{fault_of_hinted, unhinted_file}
use Rattle.station_compare.specs.Faults.{of_file}
use Rattle.station_compare.specs.Refusals.{unhinted}
use denote.Param.{param}
use Rattle.table_answers.proofs.Given.{answers_by_input, fault_of_survey, left_by_input}
use Rattle.table_answers.proofs.Given.{refused_by_file}
use Rattle.table_answers.specs.Noting.{Noting}
use Rattle.table_answers.specs.OfInput.{SaysOfInput}
use Rattle.table_answers.proofs.answering.table_answer_of.Goals as goal

pub returns : goal.returns
returns g c =
    let limits = c.args.limits in
    let name = c.args.name.now in
    let says = Noting (g.A.TableAnswer.says c.args.asked.now limits)
    (g.A.TableAnswer.form_of c.args.asked.now) in
    let refuses = g.A.TableAnswer.refuses c.args.asked.now limits in
    let of_bytes = g.met.A.TableAnswer.of_bytes c.args.asked.now limits in
    let found = c.in-Ok.found in
    let its = c.in-Some.surveyed.now in
    let answer = c.answer_of_input-answer.result in
    let file = rw c.in-Ok.is at c.noted_stations_of_file-noted.ensures.surveys in
    let s = file.came in
    let q = c.answer_of_input-answer.ensures.tells in
    let left = some_left (g.Q.Source.told c.answer_of_input-answer.new.table) in
    let by_input = q.so left.0 left.1 in
    rw (c.hinted.ensures, c.station.ensures) (record {
      gsi_bytes = s.given;
      gsi_reads = s.by_reads;
      table_bytes = q.given;
      table_reads = q.by_reads;
      so = λ gsi_left table_left gsi_may table_may.
          let survey = s.so gsi_left gsi_may in
          answers_by_input says refuses of_bytes
          (λ noted. (g.A.TableAnswer.value noted.answer, noted.note.items)) limits _ _ name
          its answer ((station_of_file limits.faces _ name its c.recall.ensures).0 (record {
            stations = found.0;
            survey = record {
              blocks = survey.blocks;
              file = survey.file;
              stations_are = survey.stations_are;
            };
            named = sym c.get.ensures ∙ ap option_copied c.in-Some.is;
          })) (q.so table_left table_may) c.answer_of_input-answer.ensures.held;
      gsi_reader = rw (fault_of_hinted its.station limits.residual answer)
          (left_by_input says refuses of_bytes (λ a. SaysOfInput (says its)
          (input_within LONGEST_TABLE (given_then q.given left.0))
          (g.A.TableAnswer.value a.answer, a.note.items)) its _ answer _ by_input file.left);
      table_reader = rw (fault_of_hinted its.station limits.residual answer)
          c.answer_of_input-answer.ensures.reader;
    })

pub returns-in_default : goal.returns-in_default
returns-in_default g c =
    let found = c.in-Ok.found in
    let file = rw c.in-Ok.is at c.noted_stations_of_file-noted.ensures.surveys in
    let s = file.came in
    record {
      gsi_bytes = s.given;
      gsi_reads = s.by_reads;
      table_bytes = [];
      table_reads = given_none g.Q.Source.told g.Q.Source.failed g.Q.Source.gave c.args.table.now;
      so = λ gsi_left table_left gsi_may table_may.
          let survey = s.so gsi_left gsi_may in (
            record {
              stations = found.0;
              survey = record {
                blocks = survey.blocks;
                file = survey.file;
                stations_are = survey.stations_are;
              };
              none = sym c.get.ensures ∙ ap option_copied c.in_default.is;
            },
            record {
              stations = found.0;
              unchecked = found.1;
              survey = survey;
              hint_is = c.stations_hint-hint.ensures;
            },
          );
      gsi_reader = file.left;
      table_reader = record { same = refl; unfailed = refl };
    }

pub returns-in-Err : goal.returns-in-Err
returns-in-Err g c =
    let refuses = g.A.TableAnswer.refuses c.args.asked.now c.args.limits in
    let limits = c.args.limits in
    let name = c.args.name.now in
    let fault = c.in-Err.fault in
    let file = rw c.in-Err.is at c.noted_stations_of_file-noted.ensures.surveys in
    let own = rw c.in-Err.is at c.noted_stations_of_file-noted.ensures.of_file in
    let s = file.came in
    let is_its : c.from-in-Err.result ≡ unhinted (of_file fault) = search rules in
    rw is_its (record {
      gsi_bytes = s.given;
      gsi_reads = s.by_reads;
      table_bytes = [];
      table_reads = given_none g.Q.Source.told g.Q.Source.failed g.Q.Source.gave c.args.table.now;
      so = λ gsi_left table_left gsi_may table_may. (
        refused_by_file refuses limits _ _ name fault own
            (fault_of_survey limits.faces _ fault (s.so gsi_left gsi_may)),
        unhinted_file limits _ name fault own,
      );
      gsi_reader = left_by_file {B = (param 3 g.row.A-Answer).Denot}
          c.noted_stations_of_file-noted.result.0 fault (Err (of_file fault)) _ c.in-Err.is refl
          c.noted_stations_of_file-noted.ensures.surveys.left;
      table_reader = left_alone (param 3 g.row.A-Answer).Denot fault _
          (record { same = refl; unfailed = refl });
    })
