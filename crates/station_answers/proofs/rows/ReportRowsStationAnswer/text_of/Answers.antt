use Rattle.std.proofs.Common.{◌∙◌, ap, length, rules}
use Rattle.station_results.proofs.GreatestLaws.{as_many_rows}
use Rattle.station_answers.proofs.rows.ReportRowsStationAnswer.text_of.Goals as goal

pub text_of-requires : goal.text_of-requires
text_of-requires c =
    let adjusted = rw c.station.ensures at c.in_ok-rows.ensures.adjusted in
    ap length c.deref.ensures.value
    ∙ as_many_rows c.args.surveyed.now.station c.in_ok-rows.rows.items adjusted.observed

pub returns-clause-text : goal.returns-clause-text
returns-clause-text c = record {
  rows = c.in_ok-rows.rows.items;
  text_is = search rules;
  adjusted = rw c.station.ensures at c.in_ok-rows.ensures.adjusted;
}
