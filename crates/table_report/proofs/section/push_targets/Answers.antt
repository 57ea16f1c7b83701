use Rattle.std.proofs.Common.{ℕ, ◌∙◌, List, [], ◌∷◌, ◌++◌, Bool, ℤ, ap, flat_map, sym, take}
use Rattle.std.proofs.Common.{FitsSigned, of_z, rules, to_z}
use Rattle.std.proofs.lemmas.Int.{to_z-of_z}
use Rattle.std.proofs.lemmas.List.{flat_map_more, take_more}
use Rattle.std.specs.Int.{w32}
use Rattle.station_differences.specs.DifferenceTexts.{are_short}
use Rattle.station_differences.specs.Medians.{median_of}
use Rattle.station_differences.specs.declared.compared.TargetDifference.{TargetDifference}
use Rattle.table_report.specs.Sections.{target_line}
use Rattle.table_report.proofs.section.push_targets.Goals as goal

pub loop-row-preserved : goal.loop-row-preserved
loop-row-preserved c =
    let rows = c.args.rows.now in
    let row = c.row-item.result in
    let i = c.loop-row.row-index in
    let first = c.args.text.now.items in
    let so_far = c.loop-row.text.items in
    let found = c.median_of-median.result in
    let fits : FitsSigned w32 found = search rules in
    let line = target_line (are_short rows) (median_of rows) in
    let added = c.in_ok-push_target.ensures
    ∙ ap (λ (short : Bool). so_far ++ target_line short (to_z w32 (of_z w32 found)) row)
    c.are_short-short.ensures
    ∙ ap (λ (median : ℤ). so_far ++ target_line (are_short rows) median row)
    (to_z-of_z w32 found fits ∙ c.median_of-median.ensures) in
    let more = take_more rows i row c.loop-row-test.true
    ∙ ap (λ (r : TargetDifference). take i rows ++ (r ∷ [])) (sym c.row-item.is) in
    added ∙ ap (λ (t : List ℕ). t ++ line row) c.loop-row.invariant
    ∙ flat_map_more line first (take i rows) row
    ∙ ap (λ (passed : List TargetDifference). first ++ flat_map line passed) (sym more)
