use Rattle.std.proofs.Common.{arith}
use Rattle.std.proofs.lemmas.Grind.{common_steps}
use Rattle.direction_table.proofs.RowsPicked.{none-picked}
use Rattle.direction_table.proofs.picked.pick_begun.Goals as goal

pub returns : goal.returns
returns c =
    rw (c.if-has_begun.false, none-picked c.args.taken c.args.unit c.args.pair) (grind (arith, common_steps))
