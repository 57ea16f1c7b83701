use Rattle.station_page.specs.Texts.{bytes_in}
use Rattle.station_page.proofs.explain.hand_out_explanation.Goals as goal

pub returns : goal.returns
returns c = record {
  shows = record {
    table = _;
    is_the_table = c.all_explanations-table.ensures;
    answer = bytes_in c.explained.result;
    answers = c.explained.ensures;
    hands_out = c.hand_out_text.ensures.shows;
  };
  leaves = c.hand_out_text.ensures.leaves;
}
