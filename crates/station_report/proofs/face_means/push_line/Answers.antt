use Rattle.std.proofs.Common.{◌++◌, codes, FitsSigned}
use Rattle.std.specs.Int.{w64}
use Rattle.std.proofs.lemmas.Int.{to_z-of_z}
use Rattle.angle_texts.specs.MgonTexts.{short_mgon_text}
use Rattle.report_phrases.specs.Phrases.{said}
use Rattle.station_report.specs.Columns.{left_text, right_text}
use Rattle.station_report.proofs.PlaceLaws.{three}
use Rattle.station_report.proofs.face_means.push_line.Goals as goal

pub returns : goal.returns
returns c =
    let two_c_fits : FitsSigned w64 c.args.two_c = c.ranges.two_c in
    let two_i_fits : FitsSigned w64 c.args.two_i = c.ranges.two_i in
    let words = left_text 56 (said c.args.language c.args.words) in
    let two_c = right_text 10 (short_mgon_text c.args.two_c) in
    let two_i = right_text 10 (short_mgon_text c.args.two_i) in
    let last = three c.push_left.new.text.items c.push_number.new.text.items
    c.push_number-2.new.text.items c.push.new.self.items two_c two_i (codes "\n")
    (rw (to_z-of_z w64 c.args.two_c two_c_fits) at c.in_ok-push_number.ensures)
    (rw (to_z-of_z w64 c.args.two_i two_i_fits) at c.in_ok-push_number-2.ensures)
    c.in_ok-push.ensures.items in
    three c.args.text.now.items c.extend_from_slice.new.self.items c.push_left.new.text.items
    c.push.new.self.items (codes "  ") words (two_c ++ (two_i ++ codes "\n"))
    c.in_ok-extend_from_slice.ensures.items
    (rw c.said.ensures at c.in_ok-push_left.ensures.added) last
