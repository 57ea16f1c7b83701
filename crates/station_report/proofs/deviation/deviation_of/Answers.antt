use Rattle.std.proofs.Common.{◌≤◌, ◌*◌, arith, length}
use Rattle.std.proofs.Math.Nat.{mul-le-mul}
use Rattle.station_report.specs.Deviations.{degrees_of}
use Rattle.station_report.proofs.DeviationLaws.{below_most, fits_most, is_deviation}
use Rattle.station_report.proofs.DeviationLaws.{rounded_by_quotient}
use Rattle.station_report.proofs.deviation.deviation_of.Goals as goal

pub quotient-square-requires-clause-below : goal.quotient-square-requires-clause-below
quotient-square-requires-clause-below c =
    let d = c.args.adjustment.now.denominator in
    let f = degrees_of c.args.station.now * c.args.number in
    let some = c.denominator-denominator.ensures.valid.positive in
    let free : 1 * 1 ≤ f = mul-le-mul c.requires.squares.free c.requires.some in
    simp (
      c.times-quarters.ensures,
      c.times-unit.ensures,
      c.denominator-denominator.ensures.value,
      c.degrees_of.ensures.value,
      c.obs-obs.ensures.value,
    ) (below_most d f (length c.args.station.now.obs) c.args.squares.now some
    (omega (arith, free)) c.requires.squares.bound)

pub quotient-square-requires-clause-fits : goal.quotient-square-requires-clause-fits
quotient-square-requires-clause-fits c =
    let d = c.args.adjustment.now.denominator in
    let f = degrees_of c.args.station.now * c.args.number in
    let short = c.denominator-denominator.ensures.valid.short in
    let few_free = c.degrees_of.ensures.bound in
    let same = c.degrees_of.ensures.value in
    let free : 1 * 1 ≤ f = mul-le-mul c.requires.squares.free c.requires.some in
    let few_degrees : degrees_of c.args.station.now ≤ 4_000 = omega (arith, few_free, same) in
    let few_number : c.args.number ≤ 40 = c.requires.few in
    let few : f ≤ 4_000 * 40 = mul-le-mul few_degrees few_number in
    simp (
      c.times-unit.ensures,
      c.denominator-denominator.ensures.value,
      c.degrees_of.ensures.value,
      c.obs-obs.ensures.value,
    ) (fits_most d f (length c.args.station.now.obs) _ (omega (arith, free))
    (omega (arith, few)) c.obs-obs.ensures.few short)

pub returns-clause-deviation : goal.returns-clause-deviation
returns-clause-deviation c =
    let r = c.requires.squares in
    let d = c.args.adjustment.now.denominator in
    let f = degrees_of c.args.station.now * c.args.number in
    let some = c.denominator-denominator.ensures.valid.positive in
    let low = simp (
      c.times-quarters.ensures,
      c.times-unit.ensures,
      c.denominator-denominator.ensures.value,
      c.degrees_of.ensures.value,
    ) at c.quotient-square.ensures.low in
    let high = simp (
      c.times-quarters.ensures,
      c.times-unit.ensures,
      c.denominator-denominator.ensures.value,
      c.degrees_of.ensures.value,
    ) at c.quotient-square.ensures.high in
    let both = rounded_by_quotient d f c.args.squares.now c.quotient-square.result
    c.half_root.result _ some r.sum low high c.half_root.ensures.low c.half_root.ensures.high in
    is_deviation c.args.station.now c.degrees_of.ensures.valid c.args.adjustment.now r.tied r.exact
    r.limited c.args.number c.half_root.result (record { low = both.0; high = both.1 })
