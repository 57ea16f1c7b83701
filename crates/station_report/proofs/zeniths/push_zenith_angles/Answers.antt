use Rattle.std.proofs.Common.{◌++◌}
use Rattle.report_phrases.specs.Phrases.{said}
use Rattle.report_phrases.specs.declared.phrase.Phrase.TheVariants as phrase
use Rattle.station_report.specs.ReportTexts.{sets_text, zenith_line, zenith_means_text}
use Rattle.station_report.proofs.PlaceLaws.{three, two}
use Rattle.station_report.proofs.zeniths.push_zenith_angles.Goals as goal

pub returns : goal.returns
returns c =
    let its = c.args.surveyed.now in
    let language = c.args.language in
    let sets = sets_text its.station (zenith_line its) in
    let means = zenith_means_text language its in
    let last = two c.push_phrase-2.new.text.items c.push_sets.new.text.items
    c.push_means.new.text.items sets means (rw c.station.ensures at c.in_ok-push_sets.ensures)
    c.in_ok-push_means.ensures in
    three c.args.text.now.items c.push_phrase.new.text.items c.push_phrase-2.new.text.items
    c.push_means.new.text.items (said language phrase.ZenithAngles)
    (said language phrase.ZenithColumns) (sets ++ means)
    c.in_ok-push_phrase.ensures.added c.in_ok-push_phrase-2.ensures.added last
