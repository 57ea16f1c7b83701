use Rattle.std.proofs.Common.{arith}
use Rattle.std.proofs.lemmas.Grind.{common_steps}
use Rattle.csv.specs.Records.{fields_of}
use Rattle.direction_table.proofs.FieldsAt.{rest_more}
use Rattle.direction_table.proofs.cell.goes_on_from.Goals as goal

pub returns-then-may_go_on : goal.returns-then-may_go_on
returns-then-may_go_on c =
    let more = rest_more c.args.unit (fields_of c.args.row.now) c.loop-place.place
    (omega arith) in
    grind (arith, common_steps)

pub loop-place-preserved : goal.loop-place-preserved
loop-place-preserved c =
    let more = rest_more c.args.unit (fields_of c.args.row.now) c.loop-place.place
    (omega arith) in
    grind (arith, common_steps)
