use Rattle.station_differences.proofs.LeastLaws.{one_lines}
use Rattle.station_differences.proofs.TextLaws.{one_text}
use Rattle.station_differences.proofs.laws.one_list.Goals as goal

pub returns-clause-lines : goal.returns-clause-lines
returns-clause-lines c = λ station stated a b p q. one_lines station stated a b p q

pub returns-clause-text : goal.returns-clause-text
returns-clause-text c = one_text
