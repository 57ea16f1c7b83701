use Rattle.std.proofs.Common.{◌∙◌, List, ℕ, ℤ, ◌++◌, ap, codes, rules, FitsSigned, to_z, of_z}
use Rattle.std.specs.Int.{w32}
use Rattle.std.proofs.lemmas.Int.{to_z-of_z}
use Rattle.angle_texts.specs.MgonTexts.{mgon_text}
use Rattle.station_differences.specs.DifferenceTexts.{from_median_text, stated_text}
use Rattle.station_report.specs.Columns.{left_text, right_text}
use Rattle.station_report.proofs.PlaceLaws.{three, two}
use Rattle.table_report.proofs.section.push_target.Goals as goal

pub returns : goal.returns
returns c =
    let row = c.args.row.now in
    let fits : FitsSigned w32 row.difference = search rules in
    let median_fits : FitsSigned w32 c.args.median = search rules in
    let whole = c.push.new.self.items in
    let name = left_text 16 row.target in
    let stated = right_text 18 (stated_text c.args.short row.stated) in
    let difference = right_text 14 (mgon_text row.difference) in
    let from_median = right_text 19 (from_median_text c.args.median row.difference) in
    let of_stated = c.in_ok-push_stated.ensures.added
    ∙ ap (λ (t : List ℕ). t ++ stated_text c.args.short row.stated) c.clear.ensures.items in
    let of_difference = c.in_ok-push_mgon.ensures.added
    ∙ ap (λ (t : List ℕ). t ++ mgon_text (to_z w32 (of_z w32 row.difference)))
    c.clear-2.ensures.items
    ∙ ap mgon_text (to_z-of_z w32 row.difference fits) in
    let of_median = c.in_ok-push_from_median.ensures.added
    ∙ ap (λ (t : List ℕ). t ++ from_median_text (to_z w32 (of_z w32 c.args.median))
    (to_z w32 (of_z w32 row.difference))) c.clear-3.ensures.items
    ∙ ap (λ (m : ℤ). from_median_text m (to_z w32 (of_z w32 row.difference)))
    (to_z-of_z w32 c.args.median median_fits)
    ∙ ap (from_median_text c.args.median) (to_z-of_z w32 row.difference fits) in
    let end = two c.push_right-2.new.text.items c.push_right-3.new.text.items whole from_median
    (codes "\n")
    (c.in_ok-push_right-3.ensures.added
    ∙ ap (λ (f : List ℕ). c.push_right-2.new.text.items ++ right_text 19 f)
    (c.deref-3.ensures.value ∙ of_median))
    c.in_ok-push.ensures.items in
    let last = three c.push_left.new.text.items c.push_right.new.text.items
    c.push_right-2.new.text.items whole stated difference (from_median ++ codes "\n")
    (c.in_ok-push_right.ensures.added
    ∙ ap (λ (f : List ℕ). c.push_left.new.text.items ++ right_text 18 f)
    (c.deref.ensures.value ∙ of_stated))
    (c.in_ok-push_right-2.ensures.added
    ∙ ap (λ (f : List ℕ). c.push_right.new.text.items ++ right_text 14 f)
    (c.deref-2.ensures.value ∙ of_difference))
    end in
    three c.args.text.now.items c.extend_from_slice.new.self.items c.push_left.new.text.items whole
    (codes "  ") name (stated ++ (difference ++ (from_median ++ codes "\n")))
    c.in_ok-extend_from_slice.ensures.items
    (rw c.bytes.ensures.value at c.in_ok-push_left.ensures.added) last
