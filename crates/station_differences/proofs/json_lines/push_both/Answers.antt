use Rattle.std.proofs.Common.{FitsSigned, codes, rules}
use Rattle.std.proofs.lemmas.Int.{to_z-of_z}
use Rattle.std.specs.Int.{w32}
use Rattle.angle_texts.specs.MgonTexts.{mgon_text}
use Rattle.station_differences.specs.DifferenceTexts.{from_median_text}
use Rattle.station_differences.specs.JsonLines.{json_both}
use Rattle.station_differences.proofs.Appended.{four}
use Rattle.station_differences.proofs.json_lines.push_both.Goals as goal

pub returns : goal.returns
unfolding json_both
returns c =
    let difference = c.args.difference in
    let median = c.args.median in
    let fits : FitsSigned w32 difference = search (rules, c.ranges.difference.sfits) in
    let median_fits : FitsSigned w32 median = search (rules, c.ranges.median.sfits) in
    let same = to_z-of_z w32 difference fits in
    four _ _ _ _ _ (codes ",\"difference\":") (mgon_text difference) (codes ",\"from_median\":")
    (from_median_text median difference) c.in_ok-extend_from_slice.ensures.items
    (rw same at c.in_ok-push_mgon.ensures.added) c.in_ok-extend_from_slice-2.ensures.items
    (rw (same, to_z-of_z w32 median median_fits) at c.in_ok-push_from_median.ensures.added)
