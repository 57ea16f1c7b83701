use Rattle.std.proofs.Common.{rules}
use Rattle.station_page.specs.Placed.{IsPlaceText}
use Rattle.station_page.proofs.Made.{made}
use Rattle.station_page.proofs.place.station_page_place.Goals as goal

pub returns : goal.returns
returns c = record {
  shows = made (IsPlaceText c.args.line.now c.args.gsi.now c.args.other.now) c.text_of.result
      _ _ _ c.text_of.ensures c.hand_out_text.ensures.shows;
  leaves = search rules;
}
