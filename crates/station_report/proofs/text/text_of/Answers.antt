use Rattle.std.proofs.Common.{◌++◌}
use Rattle.station_report.specs.NoteTexts as notes
use Rattle.station_report.specs.ReportTexts as spec
use Rattle.station_report.proofs.PlaceLaws.{three}
use Rattle.station_report.proofs.text.text_of.Goals as goal

pub returns : goal.returns
returns c =
    let its = c.args.surveyed.now in
    let language = (notes.head_of c.args.head).notes.language in
    let same = c.language-language.ensures in
    let v = c.args.computed.now in
    let station = c.station-station.ensures in
    let zeniths = spec.zenith_angles_text language its in
    let directions = spec.directions_text language its.station v.directions.items in
    let agreement = spec.agreement_text language its.station v.rows.items v.greatest v.accuracy in
    let section = c.args.section.now in
    let signature = notes.signature_text (notes.noted c.args.head.notes) in
    let third = three c.push_directions.new.text.items c.extend_from_slice.new.self.items
    c.push_agreement.new.text.items c.push_signature.new.text.items section agreement signature
    c.in_ok-extend_from_slice.ensures.items
    (rw (same, station, c.deref-2.ensures.value) at c.in_ok-push_agreement.ensures)
    c.in_ok-push_signature.ensures in
    let second = three c.push_readings.new.text.items c.push_zenith_angles.new.text.items
    c.push_directions.new.text.items c.push_signature.new.text.items zeniths directions
    (section ++ (agreement ++ signature)) (rw same at c.in_ok-push_zenith_angles.ensures)
    (rw (same, station, c.deref.ensures.value) at c.in_ok-push_directions.ensures) third in
    rw c.new-text.ensures.items at (three c.new-text.result.items c.push_head.new.text.items
    c.push_readings.new.text.items c.push_signature.new.text.items
    (spec.head_text (notes.head_of c.args.head) c.args.limits its.station)
    (spec.readings_text language its)
    (zeniths ++ (directions ++ (section ++ (agreement ++ signature))))
    (rw station at c.in_ok-push_head.ensures) (rw same at c.in_ok-push_readings.ensures) second)
