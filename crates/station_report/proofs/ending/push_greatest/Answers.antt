use Rattle.std.proofs.Common.{◌≡◌, ◌∙◌, rules, FitsSigned, to_z, of_z}
use Rattle.std.specs.Int.{w32}
use Rattle.std.proofs.lemmas.Int.{to_z-of_z}
use Rattle.angle_texts.specs.MgonTexts.{mgon_text}
use Rattle.report_phrases.specs.Phrases.{said}
use Rattle.report_phrases.specs.declared.phrase.Phrase.TheVariants as phrase
use Rattle.station_report.specs.ReportTexts.{place_text}
use Rattle.station_results.specs.Greatest.{residual_at}
use Rattle.station_report.proofs.PlaceLaws.{three}
use Rattle.station_report.proofs.ending.push_greatest.Goals as goal

pub returns : goal.returns
returns c =
    let fits : FitsSigned w32 c.residual_at.result = search rules in
    let units : to_z w32 (of_z w32 c.residual_at.result)
    ≡ residual_at c.args.rows.now c.args.place =
    to_z-of_z w32 c.residual_at.result fits ∙ c.residual_at.ensures in
    three c.args.text.now.items c.push_mgon.new.text.items c.push_phrase.new.text.items
    c.push_place.new.text.items (mgon_text (residual_at c.args.rows.now c.args.place))
    (said c.args.language phrase.AndSet)
    (place_text c.args.language c.args.station.now c.args.place)
    (rw units at c.in_ok-push_mgon.ensures.added) c.in_ok-push_phrase.ensures.added
    c.in_ok-push_place.ensures
