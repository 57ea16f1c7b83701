use Rattle.std.proofs.Common.{◌≡◌, ◌∙◌, ◌++◌, ℤ, codes, length}
use Rattle.std.proofs.Common.{FitsSigned, rules, to_z, of_z}
use Rattle.std.specs.Int.{w64}
use Rattle.std.proofs.lemmas.Int.{to_z-of_z}
use Rattle.report_phrases.specs.Phrases.{said}
use Rattle.report_phrases.specs.declared.phrase.Phrase.TheVariants as phrase
use Rattle.station_report.specs.FaceMeans.{half_mean_below, mean_below, spread_below}
use Rattle.station_report.specs.Readings.{two_c_at, two_i_at}
use Rattle.station_report.specs.ReportTexts.{foot_line}
use Rattle.station_report.proofs.PlaceLaws.{three, two}
use Rattle.station_report.proofs.face_means.push_foot.Goals as goal

pub returns : goal.returns
returns c =
    let its = c.args.surveyed.now in
    let language = c.args.language in
    let count = length its.station.obs in
    let two_c = c.means_of_faces.ensures.two_c in
    let two_i = c.means_of_faces.ensures.two_i in
    let same : (z : ℤ) → FitsSigned w64 z → to_z w64 (of_z w64 z) ≡ z =
    λ z fits. to_z-of_z w64 z fits in
    let mean_c = same c.means_of_faces.result.0.mean (search rules) ∙ two_c.mean in
    let mean_i = same c.means_of_faces.result.1.mean (search rules) ∙ two_i.mean in
    let half_c = same c.means_of_faces.result.0.half (search rules) ∙ two_c.half in
    let half_i = same c.means_of_faces.result.1.half (search rules) ∙ two_i.half in
    let spread_c = same c.means_of_faces.result.0.spread (search rules) ∙ two_c.spread in
    let spread_i = same c.means_of_faces.result.1.spread (search rules) ∙ two_i.spread in
    let mean = foot_line (said language phrase.Mean) (mean_below count (two_c_at its))
    (mean_below count (two_i_at its)) in
    let half = foot_line (said language phrase.HalfOfMean)
    (half_mean_below count (two_c_at its)) (half_mean_below count (two_i_at its)) in
    let spread = foot_line (said language phrase.Spread)
    (spread_below count (two_c_at its)) (spread_below count (two_i_at its)) in
    let last = two c.push_line.new.text.items c.push_line-2.new.text.items
    c.push_line-3.new.text.items half spread
    (c.in_ok-push_line-2.ensures
    ∙ (λ i. c.push_line.new.text.items
    ++ foot_line (said language phrase.HalfOfMean) (half_c i) (half_i i)))
    (c.in_ok-push_line-3.ensures
    ∙ (λ i. c.push_line-2.new.text.items
    ++ foot_line (said language phrase.Spread) (spread_c i) (spread_i i))) in
    three c.args.text.now.items c.push.new.self.items c.push_line.new.text.items
    c.push_line-3.new.text.items (codes "\n") mean (half ++ spread) c.in_ok-push.ensures.items
    (c.in_ok-push_line.ensures
    ∙ (λ i. c.push.new.self.items
    ++ foot_line (said language phrase.Mean) (mean_c i) (mean_i i))) last
