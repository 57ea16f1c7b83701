use Rattle.station_page.proofs.Comparisons.{compares}
use Rattle.station_page.proofs.table.station_page_compare.Goals as goal

pub returns-clause-line : goal.returns-clause-line
returns-clause-line c =
    let text = rw c.in-Some.ensures.1 at c.hand_out.ensures.text in record {
      shows = λ range. let its = text.shows range.0 in record {
        beside = its;
        compares = compares _ _ _ _ _ _ its.answer its.tells;
      };
      beyond = λ none. text.beyond (λ faces. none (faces, c.in-Some.ensures.0.0, c.in-Some.ensures.0.1));
      leaves = text.leaves;
    }
