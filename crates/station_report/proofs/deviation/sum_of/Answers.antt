use Rattle.std.proofs.Common.{length}
use Rattle.station_report.proofs.DeviationLaws.{is_sum, rounded_by_halves, sum_below_most}
use Rattle.station_report.proofs.DeviationLaws.{sum_fits_most}
use Rattle.station_report.proofs.deviation.sum_of.Goals as goal

pub quotient-requires-clause-below : goal.quotient-requires-clause-below
quotient-requires-clause-below c =
    let d = c.args.adjustment.now.denominator in
    let some = c.denominator-denominator.ensures.valid.positive in
    simp (
      c.times-halves.ensures,
      c.add_product.ensures,
      c.times.ensures,
      c.denominator-denominator.ensures.value,
      c.obs.ensures.value,
    ) (sum_below_most d (length c.args.station.now.obs) c.args.squares.now some c.requires.bound)

pub quotient-requires-clause-fits : goal.quotient-requires-clause-fits
quotient-requires-clause-fits c =
    let d = c.args.adjustment.now.denominator in
    let short = c.denominator-denominator.ensures.valid.short in
    simp (
      c.times.ensures,
      c.denominator-denominator.ensures.value,
      c.obs.ensures.value,
    ) (sum_fits_most d (length c.args.station.now.obs) _ c.obs.ensures.few short)

pub returns-clause-rounded : goal.returns-clause-rounded
returns-clause-rounded c =
    let d = c.args.adjustment.now.denominator in
    let low = simp (
      c.times-halves.ensures,
      c.add_product.ensures,
      c.times.ensures,
      c.denominator-denominator.ensures.value,
    ) at c.quotient.ensures.low in
    let high = simp (
      c.times-halves.ensures,
      c.add_product.ensures,
      c.times.ensures,
      c.denominator-denominator.ensures.value,
    ) at c.quotient.ensures.high in
    let both = rounded_by_halves d c.args.squares.now c.quotient.result _ c.requires.sum low high in
    is_sum c.args.station.now c.obs.ensures.valid c.args.adjustment.now c.requires.tied
    c.requires.exact c.requires.limited c.quotient.result
    (record { low = both.0; high = both.1 })
