use Rattle.std.proofs.Common.{length}
use Rattle.station_results.proofs.GreatestLaws.{one_greatest}
use Rattle.station_results.proofs.LeastLaws.{one_list, one_size}
use Rattle.station_results.proofs.laws.one_answer.Goals as goal

pub returns-clause-adjusted : goal.returns-clause-adjusted
returns-clause-adjusted c = λ station a b p q. one_list station a b p q

pub returns-clause-greatest : goal.returns-clause-greatest
returns-clause-greatest c = λ rows m n p q. one_greatest rows (length rows) m n p q

pub returns-clause-size : goal.returns-clause-size
returns-clause-size c = λ station a b p q. one_size station a b p q
