use Rattle.std.proofs.Common.{length}
use Rattle.report_phrases.specs.Phrases.{said}
use Rattle.report_phrases.specs.declared.phrase.Phrase.TheVariants as phrase
use Rattle.station_report.specs.Columns.{each_place}
use Rattle.station_report.specs.ReportTexts.{zenith_mean_line}
use Rattle.station_report.proofs.PlaceLaws.{three}
use Rattle.station_report.proofs.zenith_means.push_means.Goals as goal

pub returns : goal.returns
returns c =
    let its = c.args.surveyed.now in
    let language = c.args.language in
    three c.args.text.now.items c.push_phrase.new.text.items
    c.push_phrase-2.new.text.items c.push_lines.new.text.items
    (said language phrase.ZenithMeans)
    (said language phrase.ZenithMeanColumns)
    (each_place (length its.station.targets) (zenith_mean_line its))
    c.in_ok-push_phrase.ensures.added c.in_ok-push_phrase-2.ensures.added
    c.in_ok-push_lines.ensures
