use Rattle.std.proofs.Common.{◌++◌, codes, pos}
use Rattle.angle_texts.specs.MgonTexts.{short_mgon_text}
use Rattle.report_phrases.specs.Phrases.{said}
use Rattle.report_phrases.specs.declared.phrase.Phrase.TheVariants as phrase
use Rattle.station_report.specs.ReportTexts.{entry_text, residual_limit_text}
use Rattle.station_report.proofs.PlaceLaws.{three}
use Rattle.station_report.proofs.head.push_limits.Goals as goal

pub returns : goal.returns
returns c =
    let language = c.args.language in
    three c.args.text.now.items c.push_limit.new.text.items c.push_limit-2.new.text.items
    c.push_residual_limit.new.text.items
    (entry_text (said language phrase.LimitOfTwoC)
    (short_mgon_text (pos c.args.limits.faces.two_c) ++ codes " mgon"))
    (entry_text (said language phrase.LimitOfTwoI)
    (short_mgon_text (pos c.args.limits.faces.two_i) ++ codes " mgon"))
    (entry_text (said language phrase.LimitOfResiduals)
    (residual_limit_text c.args.limits.residual))
    (rw c.two_c.ensures.value at c.in_ok-push_limit.ensures)
    (rw c.two_i.ensures.value at c.in_ok-push_limit-2.ensures)
    c.in_ok-push_residual_limit.ensures
