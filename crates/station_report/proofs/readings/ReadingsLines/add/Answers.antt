use Rattle.std.proofs.Common.{◌≡◌, rules}
use Rattle.station_report.specs.Readings.{first_value, two_c_at, two_i_at, value_at}
use Rattle.station_report.specs.ReportTexts.{angles_text, differences_text, label_text}
use Rattle.station_report.proofs.PlaceLaws.{kept, three}
use Rattle.station_report.proofs.readings.ReadingsLines.add.Goals as goal

pub returns : goal.returns
returns c =
    let its = c.args.self.now.surveyed.now in
    let place = c.args.place in
    let two_c = kept c.faces_at-faces.ensures.two_c (search rules) in
    let two_i = kept c.faces_at-faces.ensures.two_i (search rules) in
    let value : c.observation_at-value.result.value ≡ value_at its.station place =
    rw c.station-station.ensures at c.observation_at-value.ensures.value in
    let first : c.first_value.result ≡ first_value its.station place =
    rw c.station-station.ensures at c.first_value.ensures.value in
    three c.args.text.now.items c.push_label.new.text.items c.push_angles.new.text.items
    c.push_differences.new.text.items (label_text its.station place)
    (angles_text (value_at its.station place) (two_c_at its place) (first_value its.station place))
    (differences_text (two_c_at its place) (two_i_at its place))
    (rw c.station-station.ensures at c.in_ok-push_label.ensures)
    (rw (value, two_c, first) at c.in_ok-push_angles.ensures)
    (rw (two_c, two_i) at c.in_ok-push_differences.ensures)
