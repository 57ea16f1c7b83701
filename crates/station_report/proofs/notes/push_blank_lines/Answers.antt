use Rattle.report_phrases.specs.Phrases.{said}
use Rattle.report_phrases.specs.declared.phrase.Phrase.TheVariants as phrase
use Rattle.station_report.specs.NoteTexts.{blank_line}
use Rattle.station_report.proofs.PlaceLaws.{two}
use Rattle.station_report.proofs.notes.push_blank_lines.Goals as goal

pub returns : goal.returns
returns c =
    two c.args.text.now.items c.push_blank_line.new.text.items c.push_blank_line-2.new.text.items
    (blank_line (said c.args.language phrase.PlaceAndDate))
    (blank_line (said c.args.language phrase.Signature))
    c.in_ok-push_blank_line.ensures c.in_ok-push_blank_line-2.ensures
