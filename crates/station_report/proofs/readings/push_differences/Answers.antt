use Rattle.std.proofs.Common.{codes, refl, rules}
use Rattle.angle_texts.specs.MgonTexts.{short_mgon_text}
use Rattle.station_report.specs.Columns.{right_text}
use Rattle.station_report.proofs.PlaceLaws.{kept, three}
use Rattle.station_report.proofs.readings.push_differences.Goals as goal

pub returns : goal.returns
returns c =
    let two_c = kept {z = c.args.two_c} refl (search rules) in
    let two_i = kept {z = c.args.two_i} refl (search rules) in
    three c.args.text.now.items c.push_difference.new.text.items c.push_difference-2.new.text.items
    c.push.new.self.items (right_text 10 (short_mgon_text c.args.two_c))
    (right_text 10 (short_mgon_text c.args.two_i)) (codes "\n")
    (rw two_c at c.in_ok-push_difference.ensures) (rw two_i at c.in_ok-push_difference-2.ensures)
    c.in_ok-push.ensures.items
