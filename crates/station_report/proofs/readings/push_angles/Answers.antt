use Rattle.std.proofs.Common.{◌∙◌, ◌++◌, ◌+◌, ◌-◌, ◌%◌, ap, refl, rules}
use Rattle.station_report.specs.Columns.{right_text}
use Rattle.station_report.specs.Readings.{reading_one, reading_two}
use Rattle.station_report.specs.ReportTexts.{mean_text, read_text}
use Rattle.station_report.proofs.PlaceLaws.{kept, three}
use Rattle.station_report.proofs.readings.push_angles.Goals as goal

pub returns : goal.returns
returns c =
    let value = c.args.value in
    let two_c = kept {z = c.args.two_c} refl (search rules) in
    let one = c.reading_one.ensures.value ∙ ap (reading_one value) two_c in
    let both = c.reading_two.ensures.value ∙ ap (reading_two value) two_c in
    three c.args.text.now.items c.push_read.new.text.items c.push_read-2.new.text.items
    c.push_mean.new.text.items (right_text 11 (read_text (reading_one value c.args.two_c)))
    (right_text 11 (read_text (reading_two value c.args.two_c)))
    (right_text 13 (mean_text ((value + (80_000_000 - c.args.first)) % 80_000_000)))
    (c.in_ok-push_read.ensures
    ∙ ap (λ n. c.args.text.now.items ++ right_text 11 (read_text n)) one)
    (c.in_ok-push_read-2.ensures
    ∙ ap (λ n. c.push_read.new.text.items ++ right_text 11 (read_text n)) both)
    c.in_ok-push_mean.ensures
