use Rattle.std.proofs.Common.{◌≡◌, ◌∙◌, ◌^◌, pos, ap, arith, length, rules, subst}
use Rattle.std.proofs.Common.{to_z, of_z}
use Rattle.std.specs.Int.{w32}
use Rattle.adjust_kernel.specs.Stations.{StationValue}
use Rattle.adjust_kernel.specs.Within.{IsWithin}
use Rattle.station_report.specs.Readings.{two_c_at, two_i_at}
use Rattle.station_report.specs.Together.{AreTogether}
use Rattle.station_report.proofs.PlaceLaws.{kept}
use Rattle.station_report.proofs.TogetherLaws.{more, within_most}
use Rattle.station_report.proofs.face_means.faces_together.Goals as goal

pub with-two_c-requires : goal.with-two_c-requires
with-two_c-requires c =
    let few = c.obs-place-end.ensures.few in
    let value = ap length c.obs-place-end.ensures.value in
    let inside = c.loop-place-test.true in
    within_most c.loop-place.place c.loop-place.two_c.sum (omega (arith, few, value, inside))
    c.loop-place.invariant.0.bound

pub with-two_i-requires : goal.with-two_i-requires
with-two_i-requires c =
    let few = c.obs-place-end.ensures.few in
    let value = ap length c.obs-place-end.ensures.value in
    let inside = c.loop-place-test.true in
    within_most c.loop-place.place c.loop-place.two_i.sum (omega (arith, few, value, inside))
    c.loop-place.invariant.1.bound

pub loop-place-preserved : goal.loop-place-preserved
loop-place-preserved c =
    let its = c.args.surveyed.now in
    let place = c.loop-place.place in
    let faces = c.faces_at-faces.result in
    let two_c = kept c.faces_at-faces.ensures.two_c (search rules) in
    let two_i = kept c.faces_at-faces.ensures.two_i (search rules) in
    let two_c_small : IsWithin (pos (2 ^ 31)) (to_z w32 (of_z w32 faces.two_c)) = search rules in
    let two_i_small : IsWithin (pos (2 ^ 31)) (to_z w32 (of_z w32 faces.two_i)) = search rules in (
      more place (two_c_at its) c.loop-place.two_c c.with-two_c.result
          (to_z w32 (of_z w32 faces.two_c)) c.loop-place.invariant.0 two_c_small two_c
          c.with-two_c.ensures.sum c.with-two_c.ensures.least c.with-two_c.ensures.greatest,
      more place (two_i_at its) c.loop-place.two_i c.with-two_i.result
          (to_z w32 (of_z w32 faces.two_i)) c.loop-place.invariant.1 two_i_small two_i
          c.with-two_i.ensures.sum c.with-two_i.ensures.least c.with-two_i.ensures.greatest,
    )

pub returns-clause-two_c : goal.returns-clause-two_c
returns-clause-two_c c =
    let its = c.args.surveyed.now in
    let counted = ap length c.obs-place-end.ensures.value
    ∙ ap (λ (s : StationValue). length s.obs) c.station-station.ensures in
    let count : c.loop-place.place ≡ length its.station.obs =
    omega (arith, counted, c.loop-place-test.false, c.loop-place.auto.place-end) in
    subst (λ n. AreTogether n (two_c_at its) c.loop-place.two_c) count c.loop-place.invariant.0

pub returns-clause-two_i : goal.returns-clause-two_i
returns-clause-two_i c =
    let its = c.args.surveyed.now in
    let counted = ap length c.obs-place-end.ensures.value
    ∙ ap (λ (s : StationValue). length s.obs) c.station-station.ensures in
    let count : c.loop-place.place ≡ length its.station.obs =
    omega (arith, counted, c.loop-place-test.false, c.loop-place.auto.place-end) in
    subst (λ n. AreTogether n (two_i_at its) c.loop-place.two_i) count c.loop-place.invariant.1
