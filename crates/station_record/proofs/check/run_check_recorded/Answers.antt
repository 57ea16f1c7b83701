use Rattle.std.proofs.Common.{sym}
use Rattle.byte_digests.specs.Digesting.{reader_of}
use Rattle.station_record.proofs.Undigested.{recorded_check}
use Rattle.station_record.proofs.check.run_check_recorded.Goals as goal

pub returns : goal.returns
returns g c =
    let gsi' = c.check_sources-verdict.result.1 in
    let sheet' = c.check_sources-verdict.new.sheet in (
      reader_of gsi',
      (
        reader_of sheet',
        rw (sym c.new-digested_gsi.ensures.reader, sym c.new-digested_sheet.ensures.reader) (record {
          answer = c.print_verdict-printed.result;
          so = recorded_check g.R.Source.told g.R.Source.failed g.R.Source.gave g.Q.Source.told
              g.Q.Source.failed g.Q.Source.gave c.new-digested_gsi.result gsi'
              c.new-digested_sheet.result sheet' c.new-digested_gsi.ensures.nothing
              c.new-digested_sheet.ensures.nothing c.digest-gsi_digest.result
              c.digest-sheet_digest.result c.digest-gsi_digest.ensures c.digest-sheet_digest.ensures
              c.args.limits c.args.limit c.args.gsi.name.now c.args.sheet.name.now
              c.check_sources-verdict.result.0 c.check_sources-verdict.ensures _ _
              c.print_verdict-printed.ensures;
          exits = c.report.ensures.exits;
          reports = c.report.ensures.reports;
        }),
      ),
    )
