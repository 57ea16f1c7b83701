use Rattle.std.proofs.Common.{◌∙◌, ◌++◌, ap, codes, refl, rules}
use Rattle.station_report.specs.Columns.{right_text}
use Rattle.station_report.specs.Readings.{zenith_mean, zenith_one, zenith_two}
use Rattle.station_report.specs.ReportTexts.{mean_text, read_text}
use Rattle.station_report.proofs.PlaceLaws.{kept, three, two}
use Rattle.station_report.proofs.zeniths.push_zeniths.Goals as goal

pub returns : goal.returns
returns c =
    let zenith = kept {z = c.args.zenith} refl (search rules) in
    let two_i = kept {z = c.args.two_i} refl (search rules) in
    let one = c.zenith_one.ensures.value ∙ ap zenith_one zenith in
    let both = c.zenith_two.ensures.value ∙ (λ i. zenith_two (zenith i) (two_i i)) in
    let mean = c.zenith_mean.ensures.value ∙ (λ i. zenith_mean (zenith i) (two_i i)) in
    let last = two c.push_read-2.new.text.items c.push_mean.new.text.items c.push.new.self.items
    (right_text 13 (mean_text (zenith_mean c.args.zenith c.args.two_i))) (codes "\n")
    (c.in_ok-push_mean.ensures
    ∙ ap (λ n. c.push_read-2.new.text.items ++ right_text 13 (mean_text n)) mean)
    c.in_ok-push.ensures.items in
    three c.args.text.now.items c.push_read.new.text.items c.push_read-2.new.text.items
    c.push.new.self.items (right_text 11 (read_text (zenith_one c.args.zenith)))
    (right_text 11 (read_text (zenith_two c.args.zenith c.args.two_i)))
    (right_text 13 (mean_text (zenith_mean c.args.zenith c.args.two_i)) ++ codes "\n")
    (c.in_ok-push_read.ensures
    ∙ ap (λ n. c.args.text.now.items ++ right_text 11 (read_text n)) one)
    (c.in_ok-push_read-2.ensures
    ∙ ap (λ n. c.push_read.new.text.items ++ right_text 11 (read_text n)) both) last
