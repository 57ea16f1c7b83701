use Rattle.std.proofs.Common.{arith}
use Rattle.std.proofs.lemmas.Grind.{common_steps}
use Rattle.csv.specs.Records.{fields_of}
use Rattle.table_titles.proofs.Cells.{any_more}
use Rattle.table_titles.proofs.row.has_title.Goals as goal

pub returns-then-is_title : goal.returns-then-is_title
returns-then-is_title c =
    let more = any_more c.args.title.now (fields_of c.args.row.now) c.loop-place.place
    (omega arith) in
    grind (arith, common_steps)

pub loop-place-preserved : goal.loop-place-preserved
loop-place-preserved c =
    let more = any_more c.args.title.now (fields_of c.args.row.now) c.loop-place.place
    (omega arith) in
    grind (arith, common_steps)
