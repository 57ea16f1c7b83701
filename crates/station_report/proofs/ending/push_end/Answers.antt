use Rattle.std.proofs.Common.{◌≡◌, ◌∙◌, ◌++◌, List, ℕ, ap, codes, decimal}
use Rattle.report_phrases.specs.Phrases.{said}
use Rattle.report_phrases.specs.declared.phrase.Phrase.TheVariants as phrase
use Rattle.station_report.specs.Deviations.{degrees_of}
use Rattle.station_report.specs.ReportTexts as spec
use Rattle.station_report.proofs.PlaceLaws.{three, two}
use Rattle.station_report.proofs.ending.push_end.Goals as goal

pub returns : goal.returns
returns c =
    let station = c.args.station.now in
    let language = c.args.language in
    let residual = spec.greatest_text language station c.args.rows.now c.args.greatest in
    let told : c.deref.result.now ≡ residual =
    c.deref.ensures.value ∙ c.in_ok-push_greatest.ensures
    ∙ ap (λ (t : List ℕ). t ++ residual) c.new-entry.ensures.items in
    let degrees = spec.entry_text (said language phrase.DegreesOfFreedom)
    (decimal (degrees_of station)) in
    let accuracy = spec.accuracy_text language c.args.accuracy in
    let last = two c.push_entry.new.text.items c.push_counted.new.text.items
    c.push_accuracy.new.text.items degrees accuracy
    (c.in_ok-push_counted.ensures
    ∙ ap (λ (n : ℕ). c.push_entry.new.text.items
    ++ spec.entry_text (said language phrase.DegreesOfFreedom) (decimal n))
    c.degrees_of.ensures.value)
    c.in_ok-push_accuracy.ensures in
    three c.args.text.now.items c.push.new.self.items c.push_entry.new.text.items
    c.push_accuracy.new.text.items (codes "\n")
    (spec.entry_text (said language phrase.GreatestResidual) residual) (degrees ++ accuracy)
    c.in_ok-push.ensures.items
    (c.in_ok-push_entry.ensures
    ∙ ap (λ (e : List ℕ). c.push.new.self.items
    ++ spec.entry_text (said language phrase.GreatestResidual) e) told) last
