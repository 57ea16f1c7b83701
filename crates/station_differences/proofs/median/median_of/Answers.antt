use Rattle.std.proofs.Common.{◌∙◌, FitsSigned, ap, rules, sym}
use Rattle.std.specs.Int.{w32}
use Rattle.std.proofs.lemmas.Int.{to_z-of_z}
use Rattle.std.specs.Prelude.{slice_index_or}
use Rattle.station_differences.specs.Medians.{difference_of, is_median}
use Rattle.station_differences.proofs.Medians.{found, unfound}
use Rattle.station_differences.proofs.median.median_of.Goals as goal

pub returns-in-Some : goal.returns-in-Some
returns-in-Some c =
    let rows = c.args.rows.now in
    let row = slice_index_or rows c.in-Some.place c.index-rows-place.result in
    let fits : FitsSigned w32 row.difference = search rules in
    to_z-of_z w32 row.difference fits
    ∙ sym (ap difference_of (found (λ r. is_median rows r.difference) rows c.in-Some.place
    c.index-rows-place.result c.in-Some.ensures.value c.in-Some.ensures.inside))

pub returns-in-None : goal.returns-in-None
returns-in-None c =
    sym (ap difference_of (unfound (λ r. is_median c.args.rows.now r.difference) c.args.rows.now
    c.in-None.ensures.value))
