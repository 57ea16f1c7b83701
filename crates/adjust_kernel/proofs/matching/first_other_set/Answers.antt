use Rattle.std.proofs.Common.{◌≡◌, ◌≢◌, length, IfNone, IfSome, arith, ap, rules}
use Rattle.std.specs.List.{slice_get}
use Rattle.std.proofs.lemmas.Iterator.{first_from_Range}
use Rattle.std.proofs.lemmas.List.{length-map}
use Rattle.adjust_kernel.specs.Firsts.{IsFirstDifference}
use Rattle.adjust_kernel.specs.declared.row.Orientation.{Orientation}
use Rattle.adjust_kernel.specs.Matching.{numbers_of}
use Rattle.adjust_kernel.proofs.Differences.{first_difference}
use Rattle.adjust_kernel.proofs.matching.first_other_set.Goals as goal

found : (c : goal.After-find) → IfNone c.find.result
    (numbers_of c.args.sheet.now ≡ c.args.station.now.sets)
    × IfSome c.find.result (IsFirstDifference (numbers_of c.args.sheet.now) c.args.station.now.sets)
found c =
    let xs = numbers_of c.args.sheet.now in
    let ys = c.args.station.now.sets in
    let longer = c.max-places.ensures in
    let of_sheet = ap length c.orientations.ensures.value in
    let of_station = ap length c.sets.ensures.value in
    let as_long = length-map c.args.sheet.now.orientations (λ (o : Orientation). o.set) in
    first_difference xs ys c.max-places.result c.find.result
    (omega (arith, longer, of_sheet, as_long)) (omega (arith, longer, of_station))
    (first_from_Range _ _ _ _ (λ i. slice_get xs i ≢ slice_get ys i)
    (λ i. slice_get xs i ≡ slice_get ys i) c.find.ensures.ran (λ x q k. search rules)
    (λ x q k. (search rules, search rules)))

pub returns-clause-none : goal.returns-clause-none
returns-clause-none c = (found c).0

pub returns-clause-some : goal.returns-clause-some
returns-clause-some c = (found c).1
