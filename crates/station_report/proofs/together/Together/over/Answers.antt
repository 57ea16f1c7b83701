use Rattle.std.proofs.Common.{◌≡◌, ◌∙◌, pos, ◌+ℤ◌, ◌*ℤ◌, ℤ, ap, arith, FitsSigned, to_z, of_z}
use Rattle.std.proofs.lemmas.Int.{ints, to_z-of_z}
use Rattle.std.specs.Int.{int_div_euclid, w64}
use Rattle.station_report.proofs.together.Together.over.Goals as goal

pub returns : goal.returns
returns c =
    let sum = c.args.self.sum in
    let count = c.args.count in
    let low = c.requires.bound.low in
    let high = c.requires.bound.high in
    let few = c.ranges.count.fits in
    let sum_fits : FitsSigned w64 sum = omega (arith, ints, low, high) in
    let twice_fits : FitsSigned w64 (pos 2 *ℤ sum) = omega (arith, ints, low, high) in
    let count_fits : FitsSigned w64 (pos count) = omega (arith, ints, few) in
    let number_fits : FitsSigned w64 (pos 2 *ℤ sum +ℤ pos count) =
    omega (arith, ints, low, high, few) in
    let unit_fits : FitsSigned w64 (pos 2 *ℤ pos count) = omega (arith, ints, few) in
    let twice : to_z w64 (of_z w64 (pos 2 *ℤ to_z w64 (of_z w64 sum))) ≡ pos 2 *ℤ sum =
    ap (λ (z : ℤ). to_z w64 (of_z w64 (pos 2 *ℤ z))) (to_z-of_z w64 sum sum_fits)
    ∙ to_z-of_z w64 (pos 2 *ℤ sum) twice_fits in
    let counted : to_z w64 (of_z w64 c.from-count.result) ≡ pos count =
    ap (λ (z : ℤ). to_z w64 (of_z w64 z)) c.from-count.ensures
    ∙ to_z-of_z w64 (pos count) count_fits in
    to_z-of_z w64 c.div_euclid.result (record { sfits = c.div_euclid.type_inv })
    ∙ c.div_euclid.ensures
    ∙ (λ i. int_div_euclid (to_z w64 (of_z w64 (twice i +ℤ counted i)))
    (to_z w64 (of_z w64 (pos 2 *ℤ counted i))))
    ∙ (λ i. int_div_euclid (to_z-of_z w64 (pos 2 *ℤ sum +ℤ pos count) number_fits i)
    (to_z-of_z w64 (pos 2 *ℤ pos count) unit_fits i))
