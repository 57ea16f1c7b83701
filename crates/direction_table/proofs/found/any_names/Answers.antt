use Rattle.std.proofs.Common.{arith, refl}
use Rattle.std.proofs.lemmas.Grind.{common_steps}
use Rattle.direction_table.proofs.RowsLeft.{rows-all, rows-end, rows-more}
use Rattle.direction_table.proofs.found.any_names.Goals as goal

pub loop-row-init : goal.loop-row-init
loop-row-init c = rw (rows-all c.args.rows.now) refl

pub returns-then-names_in : goal.returns-then-names_in
returns-then-names_in c =
    let more = rows-more c.args.rows.now c.loop-row.row-index c.row-item.result
    (omega arith) c.row-item.is in
    grind (arith, common_steps)

pub loop-row-preserved : goal.loop-row-preserved
loop-row-preserved c =
    let more = rows-more c.args.rows.now c.loop-row.row-index c.row-item.result
    (omega arith) c.row-item.is in
    grind (arith, common_steps)

pub returns : goal.returns
returns c =
    let end = rows-end c.args.rows.now c.loop-row.row-index (omega arith) in
    grind (arith, common_steps)
