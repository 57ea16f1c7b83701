use Rattle.std.proofs.Common.{rules}
use Rattle.station_page.specs.TextRecords.{AreTheRecords}
use Rattle.station_page.proofs.Made.{made}
use Rattle.station_page.proofs.records.station_page_records.Goals as goal

pub returns : goal.returns
returns c = record {
  shows = λ range. rw (← c.in-Some.ensures.1) (made
      (AreTheRecords c.in-Some.separator c.args.text.now) c.records_text.result _ _ _
      c.records_text.ensures c.hand_out_text.ensures.shows);
  beyond = search rules;
  leaves = search rules;
}
