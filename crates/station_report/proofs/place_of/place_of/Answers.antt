use Rattle.std.proofs.Common.{◌∙◌, arith, ap, length, sym}
use Rattle.station_report.specs.Readings.{is_of}
use Rattle.station_report.proofs.FrontLaws.{at_front, before_other, not_found}
use Rattle.station_report.proofs.place_of.place_of.Goals as goal
use Rattle.station_report.proofs.place_of.place_of.Goals.{else-place-obs-via-then-place-obs+else-is_of}
use Rattle.station_report.proofs.place_of.place_of.Goals.{else-place-obs-via-else-place-obs}

pub returns-then-is_of : goal.returns-then-is_of
returns-then-is_of c =
    let count = ap length c.obs-obs.ensures.value in
    sym (at_front c.args.station.now.obs c.args.set c.args.target
    c.obs-obs.ensures.valid.obs.ordered (is_of c.args.set c.args.target) c.front_of-place.result _
    c.front_of-place.ensures.front (before_other c.args.set c.args.target)
    (omega (arith, count, c.if-place-obs.true))
    (rw c.obs-obs.ensures.value at (sym c.is_of.ensures ∙ c.if-is_of.true)))

pub returns : goal.returns
returns c =
    let count = ap length c.obs-obs.ensures.value in
    sym (not_found c.args.station.now.obs c.args.set c.args.target
    c.obs-obs.ensures.valid.obs.ordered c.front_of-place.result _ c.front_of-place.ensures.front
    (elim c.else-place-obs.branch [
      | else-place-obs-via-then-place-obs+else-is_of w ↦
          λ less. rw c.obs-obs.ensures.value at (sym w.is_of.ensures ∙ w.if-is_of.false)
      | else-place-obs-via-else-place-obs w ↦
          λ less. absurd (omega (arith, count, less, w.if-place-obs.false))
    ]))
