use Rattle.std.proofs.Common.{◌∙◌, ap, length, rules}
use Rattle.station_results.proofs.GreatestLaws.{as_many_rows}
use Rattle.station_answers.specs.Parts.{whole_text}
use Rattle.station_answers.proofs.whole.text_by.Goals as goal

pub text_of-requires : goal.text_of-requires
text_of-requires c =
    let its = c.args.surveyed.now in
    let computed = rw c.station-station.ensures at c.in_ok-computed.ensures in
    ap length c.deref.ensures.value
    ∙ as_many_rows its.station c.in_ok-computed.computed.rows.items computed.adjusted.observed

pub returns : goal.returns
returns c = record {
  directions = c.in_ok-directions.directions.items;
  are_directions = rw c.station-station.ensures at c.in_ok-directions.ensures;
  rows = c.in_ok-rows.rows.items;
  are_rows = record {
    rows = c.in_ok-computed.computed.rows.items;
    adjusted = (rw c.station-station.ensures at c.in_ok-computed.ensures).adjusted;
    text_is = search rules;
  };
  accuracy = c.in_ok-accuracy.accuracy.items;
  is_accuracy = rw c.station-station.ensures at c.in_ok-accuracy.ensures;
  report = c.in_ok-report.report.items;
  is_report = search rules;
  text_is = c.in_ok-text.ensures
      ∙ (λ i. whole_text (c.deref-2.ensures.value i) (c.deref-3.ensures.value i)
      (c.deref-4.ensures.value i) ((c.deref-5.ensures.value ∙ c.in_ok-faces.ensures) i)
      (c.deref-6.ensures.value i));
}
