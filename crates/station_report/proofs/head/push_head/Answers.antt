use Rattle.std.proofs.Common.{◌++◌}
use Rattle.station_report.specs.NoteTexts.{head_of, noted, notes_text}
use Rattle.station_report.specs.ReportTexts.{counts_text, gaps_text, limits_text, named_text}
use Rattle.station_report.proofs.PlaceLaws.{three}
use Rattle.station_report.proofs.head.push_head.Goals as goal

pub returns : goal.returns
returns c =
    let station = c.args.station.now in
    let language = (head_of c.args.head).notes.language in
    let same = c.language-language.ensures in
    let notes = notes_text (noted c.args.head.notes) in
    let counts = counts_text language station in
    let gaps = gaps_text language station in
    let limits = limits_text language c.args.limits in
    let last = three c.push_notes.new.text.items c.push_counts.new.text.items
    c.push_gaps.new.text.items c.push_limits.new.text.items counts gaps limits
    (rw same at c.in_ok-push_counts.ensures) (rw same at c.in_ok-push_gaps.ensures)
    (rw same at c.in_ok-push_limits.ensures) in
    three c.args.text.now.items c.push_named.new.text.items c.push_notes.new.text.items
    c.push_limits.new.text.items (named_text language c.args.head.path.now station) notes
    (counts ++ (gaps ++ limits)) (rw same at c.in_ok-push_named.ensures)
    c.in_ok-push_notes.ensures last
