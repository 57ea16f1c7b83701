use Rattle.std.proofs.Common.{◌≡◌, ap, arith, length}
use Rattle.station_report.specs.GapTexts.{lacking_number}
use Rattle.station_report.proofs.PlaceLaws.{all_places, push_place}
use Rattle.station_report.proofs.gaps.push_lacking_sets.Goals as goal

pub loop-set-preserved : goal.loop-set-preserved
loop-set-preserved c =
    push_place c.args.text.now.items c.loop-set.text.items c.push_lacking.new.text.items
    c.loop-set.set (lacking_number c.args.station.now c.args.target) c.loop-set.invariant
    c.in_ok-push_lacking.ensures

pub returns : goal.returns
returns c =
    let counted = ap length c.sets-set-end.ensures.value in
    let count : c.loop-set.set ≡ length c.args.station.now.sets =
    omega (arith, counted, c.loop-set-test.false, c.loop-set.auto.set-end) in
    all_places c.args.text.now.items c.loop-set.text.items c.loop-set.set
    (length c.args.station.now.sets) (lacking_number c.args.station.now c.args.target) count
    c.loop-set.invariant
