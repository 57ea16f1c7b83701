use Rattle.std.proofs.Common.{◌≡◌, ◌∙◌, ap, arith, length}
use Rattle.adjust_kernel.specs.Stations.{StationValue}
use Rattle.station_report.specs.Columns.{each_place}
use Rattle.station_report.specs.Zeniths.{zenith_of}
use Rattle.station_report.proofs.ZenithLaws.{some_zeniths}
use Rattle.station_report.proofs.zenith_means.sums_of.Goals as goal

pub returns-clause-some : goal.returns-clause-some
returns-clause-some c =
    let its = c.args.surveyed.now in
    let l = c.loop-place in
    let counted = ap length c.obs-place-end.ensures.value
    ∙ ap (λ (s : StationValue). length s.obs) c.station-station.ensures in
    let all : l.place ≡ length its.station.obs =
    omega (arith, counted, c.loop-place-test.false, l.auto.place-end) in
    let count = l.invariant.sums.count
    ∙ ap (λ k. length (each_place k (zenith_of its c.args.target))) all in
    let some = some_zeniths its c.args.target
    (rw c.station-station.ensures at c.obs-place-end.ensures.valid) c.requires in
    omega (arith, count, some)
