use Rattle.std.proofs.Common.{◌≡◌, sym}
use Rattle.byte_digests.specs.Digesting.{reader_of}
use Rattle.station_record.specs.Recorded.{PrintsRecorded}
use Rattle.station_record.proofs.Undigested.{recorded_both}
use Rattle.table_answers.specs.Comparisons.{SaysComparison}
use Rattle.station_record.proofs.compare.run_compare_recorded.Goals as goal

pub returns : goal.returns
returns g c =
    let gsi' = c.table_answer_of-answer.result.1 in
    let table' = c.table_answer_of-answer.new.table in
    let form = c.args.form in
    let limits = c.args.limits in (
      reader_of gsi',
      (
        reader_of table',
        rw (sym c.new-digested_gsi.ensures.reader, sym c.new-digested_table.ensures.reader) (record {
          answer = c.print_verdict-printed.result;
          note = c.parts_of-compared.result.1.items;
          so = recorded_both g.R.Source.told g.R.Source.failed g.R.Source.gave g.Q.Source.told
              g.Q.Source.failed g.Q.Source.gave c.new-digested_gsi.result gsi'
              c.new-digested_table.result table' c.new-digested_gsi.ensures.nothing
              c.new-digested_table.ensures.nothing c.digest-gsi_digest.result
              c.digest-table_digest.result c.digest-gsi_digest.ensures c.digest-table_digest.ensures
              (λ compared. compared) (λ _. SaysComparison form c.args.within limits)
              (PrintsRecorded c.args.gsi.name.now c.args.table.name.now) (λ own whole. whole ≡ own)
              (PrintsRecorded c.args.gsi.name.now c.args.table.name.now c.digest-gsi_digest.result
              c.digest-table_digest.result) form limits c.args.station.now
              c.table_answer_of-answer.result.0 c.parts_of-compared.result.0
              c.parts_of-compared.result.1.items c.table_answer_of-answer.ensures
              c.parts_of-compared.ensures _ _ c.print_verdict-printed.ensures
              (λ own whole same p. rw same at p);
          exits = c.tell.ensures.exits;
          told = rw c.deref.ensures.value at c.tell.ensures.told;
        }),
      ),
    )
