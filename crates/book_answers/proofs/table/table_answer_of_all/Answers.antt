use Rattle.std.proofs.Common.{◌≡◌, ◌≤◌, List, ℕ, [], Err, length, refl, rules}
use Rattle.byte_ends.proofs.Coming.{given_none, some_left}
use Rattle.byte_ends.specs.Input.{input_within}
use Rattle.byte_ends.specs.Source.{given_then}
use Rattle.book_answers.proofs.FileLaws.{none_named}
use Rattle.book_answers.proofs.TableLaws.{gsi_left, told_of_table, why_of_file}
use Rattle.book_answers.specs.Refusals.{of_no_one}
use Rattle.station_compare.proofs.Comparisons.{left_alone, left_by_file}
use Rattle.station_compare.specs.Faults.{of_file}
use Rattle.station_tables.specs.declared.line.TheConstants.{LONGEST_TABLES}
use Rattle.book_answers.proofs.table.table_answer_of_all.Goals as goal

pub returns : goal.returns
returns g c =
    let limits = c.args.limits in
    let found = c.in-Ok.found in
    let answer = c.text_of_input-answer.result in
    let file = rw c.in-Ok.is at c.noted_stations_of_file-noted.ensures.surveys in
    let s = file.came in
    let q = c.text_of_input-answer.ensures.tells in
    let left = some_left (g.Q.Source.told c.text_of_input-answer.new.table) in
    let some : 1 ≤ length found.0 = search rules in
    record {
      gsi_bytes = s.given;
      gsi_reads = s.by_reads;
      table_bytes = q.given;
      table_reads = q.by_reads;
      so = λ gsi_left table_left gsi_may table_may.
          told_of_table c.args.asked limits _ found.0 found.1 (s.so gsi_left gsi_may)
          c.recall.ensures some _ answer (q.so table_left table_may);
      gsi_reader = gsi_left c.args.asked limits found.0 found.1
          (input_within LONGEST_TABLES (given_then q.given left.0)) answer _ file.left
          (q.so left.0 left.1);
      table_reader = c.text_of_input-answer.ensures.reader;
    }

pub returns-then-len-eq0 : goal.returns-then-len-eq0
returns-then-len-eq0 g c =
    let found = c.in-Ok.found in
    let file = rw c.in-Ok.is at c.noted_stations_of_file-noted.ensures.surveys in
    let s = file.came in
    let none : length found.0 ≡ 0 = search rules in
    rw c.no_station.ensures (record {
      gsi_bytes = s.given;
      gsi_reads = s.by_reads;
      table_bytes = [];
      table_reads = given_none g.Q.Source.told g.Q.Source.failed g.Q.Source.gave c.args.table.now;
      so = λ gsi_left table_left gsi_may table_may.
          let survey = s.so gsi_left gsi_may in λ name. (
            record {
              stations = found.0;
              survey = record {
                blocks = survey.blocks;
                file = survey.file;
                stations_are = survey.stations_are;
              };
              none = none_named name found.0 none;
            },
            record {
              stations = found.0;
              unchecked = found.1;
              survey = survey;
              hint_is = refl;
            },
          );
      gsi_reader = file.left;
      table_reader = record { same = refl; unfailed = refl };
    })

pub returns-in-Err : goal.returns-in-Err
returns-in-Err g c =
    let limits = c.args.limits in
    let fault = c.in-Err.fault in
    let file = rw c.in-Err.is at c.noted_stations_of_file-noted.ensures.surveys in
    let own = rw c.in-Err.is at c.noted_stations_of_file-noted.ensures.of_file in
    let s = file.came in
    let is_its : c.from-in-Err.result ≡ of_no_one (of_file fault) = search rules in
    rw is_its (record {
      gsi_bytes = s.given;
      gsi_reads = s.by_reads;
      table_bytes = [];
      table_reads = given_none g.Q.Source.told g.Q.Source.failed g.Q.Source.gave c.args.table.now;
      so = λ gsi_left table_left gsi_may table_may.
          why_of_file c.args.asked limits _ (given_then [] table_left) fault own
          (s.so gsi_left gsi_may);
      gsi_reader = left_by_file {B = List ℕ} c.noted_stations_of_file-noted.result.0 fault
          (Err (of_file fault)) _ c.in-Err.is refl
          c.noted_stations_of_file-noted.ensures.surveys.left;
      table_reader = left_alone (List ℕ) fault _ (record { same = refl; unfailed = refl });
    })
