use Rattle.std.proofs.Common.{rules}
use Rattle.station_report.specs.Readings.{two_i_at, zenith_at}
use Rattle.station_report.specs.ReportTexts.{label_text, zeniths_text}
use Rattle.station_report.proofs.PlaceLaws.{kept, two}
use Rattle.station_report.proofs.zeniths.ZenithsLines.add.Goals as goal

pub returns : goal.returns
returns c =
    let its = c.args.self.now.surveyed.now in
    let place = c.args.place in
    let zenith = kept c.faces_at-faces.ensures.zenith (search rules) in
    let two_i = kept c.faces_at-faces.ensures.two_i (search rules) in
    two c.args.text.now.items c.push_label.new.text.items c.push_zeniths.new.text.items
    (label_text its.station place) (zeniths_text (zenith_at its place) (two_i_at its place))
    (rw c.station.ensures at c.in_ok-push_label.ensures)
    (rw (zenith, two_i) at c.in_ok-push_zeniths.ensures)
