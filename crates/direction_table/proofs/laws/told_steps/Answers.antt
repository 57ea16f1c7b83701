use Rattle.direction_table.proofs.UsualLimits.{finer-first, finer-none, finer-other}
use Rattle.direction_table.proofs.laws.told_steps.Goals as goal

pub returns-clause-finer : goal.returns-clause-finer
returns-clause-finer c = finer-first

pub returns-clause-in_any_order : goal.returns-clause-in_any_order
returns-clause-in_any_order c = finer-other

pub returns-clause-none : goal.returns-clause-none
returns-clause-none c = finer-none
