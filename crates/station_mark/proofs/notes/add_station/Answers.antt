use Rattle.std.proofs.Common.{◌≡◌, ◌++◌, rules}
use Rattle.station_mark.specs.Notes.{again_line, note_line, recognized_text, remarks_lines}
use Rattle.station_mark.proofs.Joined.{three_joined}
use Rattle.station_mark.proofs.notes.add_station.Goals as goal

pub returns : goal.returns
returns c =
    let station = c.args.station.now in
    let remarks : c.add_remarks.new.text.items
    ≡ c.add_recognized.new.text.items ++ remarks_lines station.name station.remarks =
    search rules in
    three_joined c.args.text.now.items (again_line c.args.again station.name)
    (note_line station.name (recognized_text station)) (remarks_lines station.name station.remarks)
    c.add_again.new.text.items c.add_recognized.new.text.items c.add_remarks.new.text.items
    c.in_ok-add_again.ensures c.in_ok-add_recognized.ensures remarks
