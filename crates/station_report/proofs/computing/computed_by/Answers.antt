use Rattle.std.proofs.Common.{◌∙◌, arith}
use Rattle.least_directions.proofs.LeastLaws.{are_rounded}
use Rattle.station_results.proofs.GreatestLaws.{some_row}
use Rattle.station_results.proofs.LeastLaws.{are_adjusted}
use Rattle.station_report.proofs.computing.computed_by.Goals as goal

pub greatest_of-greatest-requires : goal.greatest_of-greatest-requires
greatest_of-greatest-requires c =
    let r = c.in_ok-rows.ensures in
    rw c.deref.ensures.value
    (some_row c.args.station.now c.in_ok-rows.rows.items r.valid r.observed)

pub returns : goal.returns
returns c =
    let station = c.args.station.now in
    let a = c.args.adjustment.now in
    let r = c.in_ok-rows.ensures in
    let d = c.in_ok-directions.ensures in
    let t = c.requires.tied in
    let e = c.requires.exact in
    let l = c.requires.limited in
    record {
      rounded = are_rounded station r.valid a t e l 1_000 c.in_ok-directions.directions.items
          (omega arith) (d.count ∙ e.each_target) d.each;
      adjusted = are_adjusted station r.valid a t e l c.in_ok-rows.rows.items r.observed r.each;
      is_greatest = rw c.deref.ensures.value at c.greatest_of-greatest.ensures;
      is_accuracy = c.in_ok-accuracy.ensures.accuracy;
    }
