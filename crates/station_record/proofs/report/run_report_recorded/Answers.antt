use Rattle.std.proofs.Common.{sym}
use Rattle.byte_digests.specs.Digesting.{reader_of}
use Rattle.instrument_reports.specs.Answers.{SaysReportOf}
use Rattle.station_record.specs.Recorded.{recorded_report_text}
use Rattle.station_record.proofs.Undigested.{recorded_of}
use Rattle.station_report.specs.NoteTexts.{head_of}
use Rattle.station_record.proofs.report.run_report_recorded.Goals as goal

pub returns : goal.returns
returns g c =
    let gsi' = c.report_of-answer.result.1 in
    let head = head_of c.args.gsi.head in
    let limits = c.args.limits in (
      reader_of gsi',
      rw (sym c.new-digested.ensures.reader) (record {
        answer = c.print_text-printed.result;
        so = recorded_of g.R.Source.told g.R.Source.failed g.R.Source.gave c.new-digested.result gsi'
            (λ text. text.items) (λ file. SaysReportOf file head limits) (recorded_report_text head)
            limits c.args.station.now c.report_of-answer.result.0 c.recorded_report-recorded.result
            c.report_of-answer.ensures c.new-digested.ensures.nothing c.digest-digest.result
            c.digest-digest.ensures c.recorded_report-recorded.ensures _ _
            c.print_text-printed.ensures;
        exits = c.report.ensures.exits;
        reports = c.report.ensures.reports;
      }),
    )
