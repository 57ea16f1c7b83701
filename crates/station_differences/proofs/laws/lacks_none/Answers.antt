use Rattle.station_differences.proofs.LeastLaws.{as_lines, as_rows}
use Rattle.station_differences.proofs.LineLaws.{all_compared}
use Rattle.station_differences.proofs.laws.lacks_none.Goals as goal

pub returns-clause-rows : goal.returns-clause-rows
returns-clause-rows c = λ station stated lines p.
    (all_compared stated lines p.stated_on, as_rows station stated lines p)

pub returns-clause-lines : goal.returns-clause-lines
returns-clause-lines c = λ station stated rows p. as_lines station stated rows p
