use Rattle.direction_table.proofs.OneAnswer.{never-both}
use Rattle.direction_table.proofs.laws.never_both.Goals as goal

pub returns : goal.returns
returns c = never-both
