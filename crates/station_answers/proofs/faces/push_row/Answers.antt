use Rattle.std.proofs.Common.{◌≡◌, ◌∙◌, ◌++◌, ℤ, codes, rules}
use Rattle.std.proofs.Common.{FitsSigned, to_z, of_z}
use Rattle.std.specs.Int.{w64}
use Rattle.std.proofs.lemmas.Int.{to_z-of_z}
use Rattle.station_answers.specs.Faces.{mgon_cell}
use Rattle.station_report.proofs.PlaceLaws.{three}
use Rattle.station_answers.proofs.faces.push_row.Goals as goal

pub returns : goal.returns
returns c =
    let same : (z : ℤ) → FitsSigned w64 z → to_z w64 (of_z w64 z) ≡ z =
    λ z fits. to_z-of_z w64 z fits in
    let its = c.args.mean in
    let mean = same its.mean (search rules) in
    let half = same its.half (search rules) in
    let spread = same its.spread (search rules) in
    let last = three c.push_cell.new.text.items c.push_cell-2.new.text.items
    c.push_cell-3.new.text.items c.push.new.self.items (mgon_cell its.half) (mgon_cell its.spread)
    (codes "\n")
    (c.in_ok-push_cell-2.ensures ∙ (λ i. c.push_cell.new.text.items ++ mgon_cell (half i)))
    (c.in_ok-push_cell-3.ensures ∙ (λ i. c.push_cell-2.new.text.items ++ mgon_cell (spread i)))
    c.in_ok-push.ensures.items in
    three c.args.text.now.items c.extend_from_slice.new.self.items c.push_cell.new.text.items
    c.push.new.self.items c.args.what.now (mgon_cell its.mean)
    (mgon_cell its.half ++ (mgon_cell its.spread ++ codes "\n"))
    c.in_ok-extend_from_slice.ensures.items
    (c.in_ok-push_cell.ensures
    ∙ (λ i. c.extend_from_slice.new.self.items ++ mgon_cell (mean i))) last
