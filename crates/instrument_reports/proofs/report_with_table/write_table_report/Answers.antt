use Rattle.std.proofs.Common.{refl, rules, Ok, Err}
use Rattle.table_report.specs.Values.{asked_of}
use Rattle.instrument_reports.proofs.TablePrinted.{table_printed}
use Rattle.instrument_reports.proofs.report_with_table.write_table_report.Goals as goal

pub returns : goal.returns
returns g c = (
  c.table_report_of-answered.result.1,
  table_printed (asked_of c.args.asked.now) c.args.limits _ _ c.args.name.now
      c.table_report_of-answered.result.0 (Err c.in-Err.refusal)
      c.table_report_of-answered.ensures (rw c.in-Err.is at c.noted_as_printed.ensures) _ _ _
      (refl, refl) (search rules),
)

pub returns-in-Ok : goal.returns-in-Ok
returns-in-Ok g c = (
  c.table_report_of-answered.result.1,
  table_printed (asked_of c.args.asked.now) c.args.limits _ _ c.args.name.now
      c.table_report_of-answered.result.0 (Ok c.in-Ok.noted)
      c.table_report_of-answered.ensures (rw c.in-Ok.is at c.noted_as_printed.ensures) _ _ _
      (rw c.unhinted.ensures.0 c.print.ensures, c.unhinted.ensures.1) refl,
)
