use Rattle.station_results.proofs.GreatestLaws.{some_row}
use Rattle.station_results.proofs.LeastLaws.{are_adjusted}
use Rattle.station_results.proofs.size.greatest_size.Goals as goal

pub greatest_of-place-requires : goal.greatest_of-place-requires
greatest_of-place-requires c =
    let r = c.in_ok-rows.ensures in
    rw c.deref.ensures.value
    (some_row c.args.station.now c.in_ok-rows.rows.items r.valid r.observed)

pub returns : goal.returns
returns c =
    let station = c.args.station.now in
    let rows = c.in_ok-rows.rows.items in
    let r = c.in_ok-rows.ensures in
    record {
      rows = rows;
      adjusted = are_adjusted station r.valid c.args.adjustment.now c.requires.tied
          c.requires.exact c.requires.limited rows r.observed r.each;
      place = c.greatest_of-place.result;
      greatest = rw c.deref.ensures.value at c.greatest_of-place.ensures;
      size_is = rw c.deref-2.ensures.value at c.size_at.ensures;
    }
