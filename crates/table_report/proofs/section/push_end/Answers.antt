use Rattle.std.proofs.Common.{◌++◌, codes}
use Rattle.report_phrases.specs.Phrases.{said}
use Rattle.report_phrases.specs.declared.phrase.Phrase.TheVariants as phrase
use Rattle.station_report.specs.NoteTexts.{label_text}
use Rattle.station_report.specs.ReportTexts.{file_text}
use Rattle.station_report.proofs.PlaceLaws.{three}
use Rattle.table_report.specs.Sections.{limit_text, verdict_line}
use Rattle.table_report.proofs.section.push_end.Goals as goal

pub returns : goal.returns
returns c =
    let language = c.args.language in
    let table = file_text (said language phrase.Table) c.args.path.now in
    let limit = limit_text language c.args.how_far.limit in
    let comparison = label_text (said language phrase.Comparison) in
    let verdict = verdict_line c.args.station.now c.args.how_far in
    let whole = c.push_verdict.new.text.items in
    let last = three c.push_file.new.text.items c.push_limit.new.text.items
    c.push_label.new.text.items whole limit comparison verdict c.in_ok-push_limit.ensures
    (rw c.said.ensures at c.in_ok-push_label.ensures.added) c.in_ok-push_verdict.ensures in
    three c.args.text.now.items c.push.new.self.items c.push_file.new.text.items whole (codes "\n")
    table (limit ++ (comparison ++ verdict)) c.in_ok-push.ensures.items
    c.in_ok-push_file.ensures.added last
