use Rattle.std.proofs.Common.{◌∙◌}
use Rattle.report_phrases.specs.Phrases.{said}
use Rattle.report_phrases.specs.declared.phrase.Phrase.TheVariants as phrase
use Rattle.station_report.specs.ReportTexts.{entry_text, file_text, title_text}
use Rattle.station_report.proofs.PlaceLaws.{three}
use Rattle.station_report.proofs.head.push_named.Goals as goal

pub returns : goal.returns
returns c =
    let language = c.args.language in
    three c.args.text.now.items c.push_title.new.text.items c.push_file.new.text.items
    c.push_entry.new.text.items (title_text language)
    (file_text (said language phrase.FieldFile) c.args.path.now)
    (entry_text (said language phrase.Station) c.args.station.now.name)
    c.in_ok-push_title.ensures c.in_ok-push_file.ensures.added
    (rw (c.bytes.ensures.value ∙ c.name.ensures.value) at c.in_ok-push_entry.ensures)
