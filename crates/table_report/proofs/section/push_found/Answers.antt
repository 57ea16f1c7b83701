use Rattle.std.proofs.Common.{◌≡◌, ◌∙◌, List, ℕ, ◌++◌, ap, append_assoc, codes, decimal, length, rules}
use Rattle.angle_texts.specs.MgonTexts.{thousandths_text}
use Rattle.station_compare.specs.AgreementTexts.{targets_word}
use Rattle.station_report.proofs.PlaceLaws.{three}
use Rattle.table_report.proofs.section.push_found.Goals as goal

pub returns : goal.returns
returns c =
    let targets = length c.args.station.now.targets in
    let apart = thousandths_text c.args.apart in
    let whole = c.extend_from_slice-4.new.self.items in
    let begun = c.extend_from_slice.new.self.items in
    let counted : c.push_count.new.text.items ≡ begun ++ decimal targets = search rules in
    let worded : c.extend_from_slice-2.new.self.items
    ≡ c.push_count.new.text.items ++ targets_word targets = search rules in
    let last = three c.extend_from_slice-2.new.self.items c.extend_from_slice-3.new.self.items
    c.push_thousandths.new.text.items whole c.args.words.now apart (codes " mgon\n")
    c.in_ok-extend_from_slice-3.ensures.items c.in_ok-push_thousandths.ensures.added
    c.in_ok-extend_from_slice-4.ensures.items in
    let rest = c.args.words.now ++ (apart ++ codes " mgon\n") in
    let all = three begun c.push_count.new.text.items c.extend_from_slice-2.new.self.items whole
    (decimal targets) (targets_word targets) rest counted worded last in
    all ∙ ap (λ (t : List ℕ). t ++ (decimal targets ++ (targets_word targets ++ rest)))
    c.in_ok-extend_from_slice.ensures.items
    ∙ append_assoc c.args.text.now.items c.args.verdict.now
    (decimal targets ++ (targets_word targets ++ rest))
