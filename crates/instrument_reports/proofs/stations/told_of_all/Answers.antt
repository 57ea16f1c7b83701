use Rattle.std.proofs.Common.{◌≡◌, Option, List, ℕ, sym, subst}
use Rattle.std.specs.Prelude.{IfSome}
use Rattle.book_answers.specs.Refusals.{fault_of}
use Rattle.instrument_reports.proofs.Kept.{all_answered, field_file_of, kept}
use Rattle.instrument_reports.proofs.stations.told_of_all.Goals as goal

pub returns : goal.returns
returns g c =
    let old = c.new-reading.result in
    let new = c.answer_of_all-answer.result.1 in
    let answer = c.answer_of_all-answer.result.0 in
    let a = c.answer_of_all-answer.ensures in
    let told = g.R.Source.told in
    let failed = g.R.Source.failed in
    let gave = g.R.Source.gave in
    let tells = field_file_of told failed gave old new (fault_of answer) _
    c.new-reading.ensures.nothing a in
    let held = (kept told failed gave old new a.came.given c.new-reading.ensures.nothing
    a.came.by_reads).1 in
    rw (sym c.new-reading.ensures.reader, c.into_parts-gsi.ensures.reader)
    (all_answered (λ text. text.items) (g.A.Telling.put c.args.asked.now)
    (g.A.StationAnswer.says c.args.asked.now c.args.limits) c.args.limits c.args.arrangement _
    answer c.answer_with.result _ tells
    (subst (λ (b : Option (List ℕ)). IfSome b (λ bytes. a.came.given ≡ bytes))
    (sym c.into_parts-gsi.ensures.kept) held)
    c.answer_with.ensures)
