use Rattle.std.proofs.Common.{◌≡◌, ◌∙◌, ◌++◌, List, ℕ, ap}
use Rattle.report_phrases.specs.Phrases.{said}
use Rattle.report_phrases.specs.declared.phrase.Phrase.TheVariants as phrase
use Rattle.station_report.specs.ReportTexts as spec
use Rattle.station_report.proofs.PlaceLaws.{three}
use Rattle.station_report.proofs.ending.push_accuracy.Goals as goal

pub returns : goal.returns
returns c =
    let a = c.args.accuracy in
    let language = c.args.language in
    let squares = spec.squares_text a.squares in
    let of_one = spec.deviation_text a.of_one (said language phrase.OfOneDirection) in
    let of_adjusted = spec.of_adjusted_text language a.of_adjusted in
    let first : c.deref.result.now ≡ squares =
    c.deref.ensures.value ∙ c.in_ok-push_squares.ensures
    ∙ ap (λ (t : List ℕ). t ++ squares) c.new-entry.ensures.items in
    let second : c.deref-2.result.now ≡ of_one =
    c.deref-2.ensures.value ∙ c.in_ok-push_deviation.ensures
    ∙ ap (λ (t : List ℕ). t ++ of_one) c.clear.ensures.items in
    let third : c.deref-3.result.now ≡ of_adjusted =
    c.deref-3.ensures.value ∙ c.in_ok-push_of_adjusted.ensures
    ∙ ap (λ (t : List ℕ). t ++ of_adjusted) c.clear-2.ensures.items in
    three c.args.text.now.items c.push_entry.new.text.items c.push_entry-2.new.text.items
    c.push_entry-3.new.text.items (spec.entry_text (said language phrase.SumOfSquares) squares)
    (spec.entry_text (said language phrase.StandardDeviation) of_one)
    (spec.entry_text (said language phrase.StandardDeviation) of_adjusted)
    (c.in_ok-push_entry.ensures
    ∙ ap (λ (e : List ℕ). c.args.text.now.items
    ++ spec.entry_text (said language phrase.SumOfSquares) e) first)
    (c.in_ok-push_entry-2.ensures
    ∙ ap (λ (e : List ℕ). c.push_entry.new.text.items
    ++ spec.entry_text (said language phrase.StandardDeviation) e) second)
    (c.in_ok-push_entry-3.ensures
    ∙ ap (λ (e : List ℕ). c.push_entry-2.new.text.items
    ++ spec.entry_text (said language phrase.StandardDeviation) e) third)
