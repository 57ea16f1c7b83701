use Rattle.std.proofs.Common.{rules}
use Rattle.station_answers.proofs.residuals.ResidualsStationAnswer.text_of.Goals as goal

pub returns-clause-text : goal.returns-clause-text
returns-clause-text c = record {
  rows = c.in_ok-rows.rows.items;
  text_is = search rules;
  adjusted = rw c.station.ensures at c.in_ok-rows.ensures.adjusted;
}
