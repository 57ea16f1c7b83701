use Rattle.std.proofs.Common.{rules}
use Rattle.station_page.specs.Recorded.{IsRecorded}
use Rattle.station_page.proofs.Made.{made}
use Rattle.station_page.proofs.instrument.station_page_instrument.Goals as goal

pub returns : goal.returns
returns c = record {
  shows = λ range. rw (← c.in-Some.ensures.1) (made
      (IsRecorded c.in-Some.language c.args.gsi.now) c.lines_of.result _ _ _ c.lines_of.ensures
      c.hand_out_text.ensures.shows);
  beyond = search rules;
  leaves = search rules;
}
