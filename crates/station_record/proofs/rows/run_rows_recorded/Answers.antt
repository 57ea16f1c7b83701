use Rattle.std.proofs.Common.{sym}
use Rattle.byte_digests.specs.Digesting.{reader_of}
use Rattle.instrument_reports.specs.Answers.{SaysRowsOf}
use Rattle.station_record.specs.Rows.{recorded_rows_text}
use Rattle.station_record.proofs.Undigested.{recorded_of}
use Rattle.station_record.proofs.rows.run_rows_recorded.Goals as goal

pub returns : goal.returns
returns g c =
    let gsi' = c.rows_of-answer.result.1 in
    let form = c.args.form in (
      reader_of gsi',
      rw (sym c.new-digested.ensures.reader) (record {
        answer = c.print_text-printed.result;
        so = recorded_of g.R.Source.told g.R.Source.failed g.R.Source.gave c.new-digested.result gsi'
            (λ text. text.items) (λ file. SaysRowsOf file form)
            (recorded_rows_text form c.args.gsi.name.now) c.args.limits c.args.station.now
            c.rows_of-answer.result.0 c.with_file_row-recorded.result c.rows_of-answer.ensures
            c.new-digested.ensures.nothing c.digest-digest.result c.digest-digest.ensures
            c.with_file_row-recorded.ensures _ _ c.print_text-printed.ensures;
        exits = c.report.ensures.exits;
        reports = c.report.ensures.reports;
      }),
    )
