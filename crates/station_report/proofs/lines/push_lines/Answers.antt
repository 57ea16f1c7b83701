use Rattle.std.proofs.Common.{◌≡◌, arith}
use Rattle.station_report.proofs.PlaceLaws.{all_places, push_place}
use Rattle.station_report.proofs.lines.push_lines.Goals as goal

pub loop-place-preserved : goal.loop-place-preserved
loop-place-preserved g c =
    push_place c.args.text.now.items c.loop-place.text.items c.add.new.text.items
    c.loop-place.place (g.L.Lines.line c.args.lines.now) c.loop-place.invariant
    c.in_ok-add.ensures

pub returns : goal.returns
returns g c =
    let all : c.loop-place.place ≡ g.L.Lines.places c.args.lines.now =
    omega (arith, c.count-place-end.ensures, c.loop-place-test.false, c.loop-place.auto.place-end)
    in
    all_places c.args.text.now.items c.loop-place.text.items c.loop-place.place
    (g.L.Lines.places c.args.lines.now) (g.L.Lines.line c.args.lines.now) all
    c.loop-place.invariant
