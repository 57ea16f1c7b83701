use Rattle.std.proofs.Common.{arith}
use Rattle.std.proofs.lemmas.Grind.{common_steps}
use Rattle.direction_table.proofs.RowsLeft.{rows-all, rows-end, rows-more}
use Rattle.direction_table.proofs.note.rows_before.Goals as goal

pub loop-place-init : goal.loop-place-init
loop-place-init c = rw (rows-all c.args.rows.now) (omega arith)

pub returns-then-names_in-clause-value : goal.returns-then-names_in-clause-value
returns-then-names_in-clause-value c =
    let more = rows-more c.args.rows.now c.loop-place.place c.index-rows-place.result
    (omega arith) c.index-rows-place.is in
    grind (arith, common_steps)

pub loop-place-preserved : goal.loop-place-preserved
loop-place-preserved c =
    let more = rows-more c.args.rows.now c.loop-place.place c.index-rows-place.result
    (omega arith) c.index-rows-place.is in
    grind (arith, common_steps)

pub returns-clause-value : goal.returns-clause-value
returns-clause-value c =
    let end = rows-end c.args.rows.now c.loop-place.place (omega arith) in
    grind (arith, common_steps)
