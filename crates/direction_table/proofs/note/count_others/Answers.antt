use Rattle.std.proofs.Common.{arith}
use Rattle.std.proofs.lemmas.Grind.{common_steps}
use Rattle.direction_table.proofs.RowsLeft.{rows-all, rows-end, rows-more}
use Rattle.direction_table.proofs.note.count_others.Goals as goal

pub loop-row-init : goal.loop-row-init
loop-row-init c = (rw (rows-all c.args.rows.now) (omega arith), omega arith)

pub loop-row-preserved : goal.loop-row-preserved
loop-row-preserved c =
    let more = rows-more c.args.rows.now c.loop-row.row-index c.row-item.result
    (omega arith) c.row-item.is in
    grind (arith, common_steps)

pub returns-clause-count : goal.returns-clause-count
returns-clause-count c =
    let end = rows-end c.args.rows.now c.loop-row.row-index (omega arith) in
    grind (arith, common_steps)
