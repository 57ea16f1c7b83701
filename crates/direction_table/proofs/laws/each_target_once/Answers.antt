use Rattle.direction_table.proofs.TargetsOnce.{each-once}
use Rattle.direction_table.proofs.laws.each_target_once.Goals as goal

pub returns : goal.returns
returns c = each-once
