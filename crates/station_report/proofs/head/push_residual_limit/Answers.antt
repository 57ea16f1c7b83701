use Rattle.std.proofs.Common.{◌∙◌, ◌++◌, ◌*◌, List, ℕ, ap, append_assoc, codes, sym}
use Rattle.angle_texts.specs.MgonTexts.{thousandths_text}
use Rattle.report_phrases.specs.Phrases.{said}
use Rattle.report_phrases.specs.declared.phrase.Phrase.TheVariants as phrase
use Rattle.station_report.specs.NoteTexts.{label_text}
use Rattle.station_report.proofs.PlaceLaws.{three}
use Rattle.station_report.proofs.head.push_residual_limit.Goals as goal

pub returns : goal.returns
returns c =
    let old = c.args.text.now.items in
    let name = label_text (said c.args.language phrase.LimitOfResiduals) in
    let limit = thousandths_text (5 * c.args.limit) in
    three old c.push_label.new.text.items c.push_thousandths.new.text.items
    c.extend_from_slice.new.self.items name limit (codes " mgon\n")
    (rw c.said.ensures at c.in_ok-push_label.ensures.added)
    (rw c.half_units.ensures.value at c.in_ok-push_thousandths.ensures.added)
    c.in_ok-extend_from_slice.ensures.items
    ∙ ap (λ (rest : List ℕ). old ++ (name ++ rest))
    (sym (append_assoc limit (codes " mgon") (codes "\n")))
