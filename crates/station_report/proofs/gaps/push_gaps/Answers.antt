use Rattle.std.proofs.Common.{◌∙◌, ◌++◌, ℕ, ap, decimal, length}
use Rattle.report_phrases.specs.Phrases.{said}
use Rattle.report_phrases.specs.declared.phrase.Phrase.TheVariants as phrase
use Rattle.station_report.specs.Columns.{each_place}
use Rattle.station_report.specs.GapTexts.{gaps_at, gaps_of}
use Rattle.station_report.specs.ReportTexts.{entry_text}
use Rattle.station_report.proofs.PlaceLaws.{two}
use Rattle.station_report.proofs.gaps.push_gaps.Goals as goal

pub returns : goal.returns
returns c =
    let station = c.args.station.now in
    let old = c.args.text.now.items in
    let label = said c.args.language phrase.MissingDirections in
    two old c.push_counted.new.text.items c.push_lines.new.text.items
    (entry_text label (decimal (gaps_of station)))
    (each_place (length station.targets) (gaps_at c.args.language station))
    (c.in_ok-push_counted.ensures
    ∙ ap (λ (n : ℕ). old ++ entry_text label (decimal n)) c.gaps_of.ensures)
    c.in_ok-push_lines.ensures
