use Rattle.changed_lines.proofs.Ordered.{ordered, same}
use Rattle.changed_lines.proofs.laws.in_order.Goals as goal

pub returns-clause-ordered : goal.returns-clause-ordered
returns-clause-ordered c = ordered

pub returns-clause-same : goal.returns-clause-same
returns-clause-same c = same
