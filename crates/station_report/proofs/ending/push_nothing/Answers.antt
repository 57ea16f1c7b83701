use Rattle.std.proofs.Common.{codes}
use Rattle.report_phrases.specs.Phrases.{said}
use Rattle.report_phrases.specs.declared.phrase.Phrase.TheVariants as phrase
use Rattle.station_report.specs.ReportTexts.{entry_text}
use Rattle.station_report.proofs.PlaceLaws.{two}
use Rattle.station_report.proofs.ending.push_nothing.Goals as goal

pub returns : goal.returns
returns c =
    let language = c.args.language in
    two c.args.text.now.items c.push.new.self.items c.push_entry.new.text.items (codes "\n")
    (entry_text (said language phrase.DegreesOfFreedom) (said language phrase.NothingToCompare))
    c.in_ok-push.ensures.items (rw c.said.ensures at c.in_ok-push_entry.ensures)
