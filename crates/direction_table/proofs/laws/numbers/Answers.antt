use Rattle.direction_table.proofs.ExactNumbers.{seconds-down, seconds-whole, size-down, size-whole}
use Rattle.direction_table.proofs.laws.numbers.Goals as goal

pub returns-clause-down : goal.returns-clause-down
returns-clause-down c = size-down

pub returns-clause-whole : goal.returns-clause-whole
returns-clause-whole c = size-whole

pub returns-clause-seconds_down : goal.returns-clause-seconds_down
returns-clause-seconds_down c = seconds-down

pub returns-clause-seconds_whole : goal.returns-clause-seconds_whole
returns-clause-seconds_whole c = seconds-whole
