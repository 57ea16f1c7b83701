use Rattle.std.proofs.Common.{arith}
use Rattle.std.proofs.lemmas.Grind.{common_steps}
use Rattle.csv.specs.Records.{fields_of}
use Rattle.direction_table.proofs.FieldsAt.{any_more}
use Rattle.direction_table.proofs.cell.names_any.Goals as goal

pub returns-then-names_in : goal.returns-then-names_in
returns-then-names_in c =
    let more = any_more c.args.targets.now (fields_of c.args.row.now) c.loop-column.column
    (omega arith) in
    grind (arith, common_steps)

pub loop-column-preserved : goal.loop-column-preserved
loop-column-preserved c =
    let more = any_more c.args.targets.now (fields_of c.args.row.now) c.loop-column.column
    (omega arith) in
    grind (arith, common_steps)
