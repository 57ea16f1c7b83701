use Rattle.std.proofs.Common.{codes}
use Rattle.station_check.specs.declared.version.TheConstants.{VERSION}
use Rattle.report_phrases.specs.Phrases.{said}
use Rattle.report_phrases.specs.declared.phrase.Phrase.TheVariants as phrase
use Rattle.station_report.proofs.PlaceLaws.{three}
use Rattle.station_report.proofs.head.push_title.Goals as goal

pub returns : goal.returns
returns c =
    three c.args.text.now.items c.extend_from_slice.new.self.items
    c.extend_from_slice-2.new.self.items c.push_phrase.new.text.items
    (codes "station_check ") VERSION.now (said c.args.language phrase.Title)
    c.in_ok-extend_from_slice.ensures.items
    (rw c.as_bytes.ensures.value at c.in_ok-extend_from_slice-2.ensures.items)
    c.in_ok-push_phrase.ensures.added
