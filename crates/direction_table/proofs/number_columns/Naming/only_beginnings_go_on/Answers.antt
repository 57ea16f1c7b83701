use Rattle.std.proofs.Common.{arith, refl}
use Rattle.std.proofs.lemmas.Grind.{common_steps}
use Rattle.direction_table.proofs.RowsLeft.{naming-all, naming-end, naming-more}
use Rattle.direction_table.proofs.number_columns.Naming.only_beginnings_go_on.Goals as goal

pub loop-row-init : goal.loop-row-init
loop-row-init c = rw (naming-all c.args.self.now) refl

pub returns-then-not-begins_what_goes_on : goal.returns-then-not-begins_what_goes_on
returns-then-not-begins_what_goes_on c =
    let more = naming-more c.args.self.now c.loop-row.row-index c.row-item.result
    (omega arith) c.row-item.is in
    grind (arith, common_steps)

pub loop-row-preserved : goal.loop-row-preserved
loop-row-preserved c =
    let more = naming-more c.args.self.now c.loop-row.row-index c.row-item.result
    (omega arith) c.row-item.is in
    grind (arith, common_steps)

pub returns : goal.returns
returns c =
    let end = naming-end c.args.self.now c.loop-row.row-index (omega arith) in
    grind (arith, common_steps)
