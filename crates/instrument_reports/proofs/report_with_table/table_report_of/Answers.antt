use Rattle.std.proofs.Common.{◌≡◌, Option, List, ℕ, sym, subst}
use Rattle.std.specs.Prelude.{IfSome}
use Rattle.byte_ends.specs.Source.{reader_change}
use Rattle.instrument_reports.proofs.Kept.{both_of, kept, table_answered}
use Rattle.station_compare.specs.Refusals.{by_fault}
use Rattle.table_report.specs.Values.{asked_of}
use Rattle.instrument_reports.proofs.report_with_table.table_report_of.Goals as goal

pub returns : goal.returns
returns g c =
    let old = c.new-reading.result in
    let new = c.table_answer_of-answer.result.1 in
    let answer = c.table_answer_of-answer.result.0 in
    let a = c.table_answer_of-answer.ensures in
    let told = g.R.Source.told in
    let failed = g.R.Source.failed in
    let gave = g.R.Source.gave in
    let table = reader_change g.Q.Source.told g.Q.Source.failed g.Q.Source.gave
    c.args.table.now c.table_answer_of-answer.new.table in
    let tells = both_of told failed gave old new table (by_fault answer) _
    c.new-reading.ensures.nothing a in
    let held = (kept told failed gave old new a.gsi_bytes c.new-reading.ensures.nothing
    a.gsi_reads).1 in
    rw (sym c.new-reading.ensures.reader, c.into_parts-gsi.ensures.reader)
    (table_answered (asked_of c.args.asked.now) c.args.limits c.args.name.now _ table answer
    c.noted_with.result _ tells
    (subst (λ (b : Option (List ℕ)). IfSome b (λ bytes. a.gsi_bytes ≡ bytes))
    (sym c.into_parts-gsi.ensures.kept) held)
    c.noted_with.ensures)
