use Rattle.std.proofs.Common.{sym}
use Rattle.byte_digests.specs.Digesting.{reader_of}
use Rattle.instrument_reports.specs.Answers.{SaysTableReportOf}
use Rattle.station_record.specs.Made.{IsRecordedTable}
use Rattle.station_record.specs.Recorded.{PrintsRecordedReport}
use Rattle.station_record.proofs.Undigested.{recorded_both}
use Rattle.table_answers.specs.Printing.{PrintsReport}
use Rattle.table_report.specs.Values.{asked_of, value_of}
use Rattle.station_record.proofs.report_with_table.run_table_report_recorded.Goals as goal

pub returns : goal.returns
returns g c =
    let gsi' = c.table_report_of-answer.result.1 in
    let table' = c.table_report_of-answer.new.table in
    let asked = asked_of c.args.asked.now in
    let limits = c.args.limits in (
      reader_of gsi',
      (
        reader_of table',
        rw (sym c.new-digested_gsi.ensures.reader, sym c.new-digested_table.ensures.reader) (record {
          answer = c.print_report-printed.result;
          note = c.recorded_both-report.result.1.items;
          so = recorded_both g.R.Source.told g.R.Source.failed g.R.Source.gave g.Q.Source.told
              g.Q.Source.failed g.Q.Source.gave c.new-digested_gsi.result gsi'
              c.new-digested_table.result table' c.new-digested_gsi.ensures.nothing
              c.new-digested_table.ensures.nothing c.digest-gsi_digest.result
              c.digest-table_digest.result c.digest-gsi_digest.ensures c.digest-table_digest.ensures
              value_of (λ file. SaysTableReportOf file asked limits) (PrintsRecordedReport asked)
              (IsRecordedTable asked c.digest-gsi_digest.result c.digest-table_digest.result)
              (λ report. PrintsReport (value_of report)) asked.form limits c.args.station.now
              c.table_report_of-answer.result.0 c.recorded_both-report.result.0
              c.recorded_both-report.result.1.items c.table_report_of-answer.ensures
              c.recorded_both-report.ensures _ _ c.print_report-printed.ensures
              (λ own whole made p. rw (made.0, made.1) at p);
          exits = c.tell.ensures.exits;
          told = rw c.deref.ensures.value at c.tell.ensures.told;
        }),
      ),
    )
