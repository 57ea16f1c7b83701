use Rattle.std.proofs.Common.{length}
use Rattle.report_phrases.specs.Phrases.{said}
use Rattle.report_phrases.specs.declared.phrase.Phrase.TheVariants as phrase
use Rattle.station_report.specs.Columns.{each_place}
use Rattle.station_report.specs.ReportTexts.{group_at}
use Rattle.station_report.proofs.PlaceLaws.{two}
use Rattle.station_report.proofs.residual_columns.push_residuals.Goals as goal

pub returns : goal.returns
returns c =
    two c.args.text.now.items c.push_phrase.new.text.items c.push_lines.new.text.items
    (said c.args.language phrase.Residuals)
    (each_place (length c.args.station.now.sets)
    (group_at c.args.language c.args.station.now c.args.rows.now))
    c.in_ok-push_phrase.ensures.added c.in_ok-push_lines.ensures
