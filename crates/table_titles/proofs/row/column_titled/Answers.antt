use Rattle.std.proofs.Common.{◌∙◌, arith}
use Rattle.csv.specs.Records.{fields_of}
use Rattle.table_titles.proofs.Cells.{found-end}
use Rattle.table_titles.proofs.row.column_titled.Goals as goal

pub returns : goal.returns
returns c = c.ok_or.ensures.value
    ∙ found-end c.args.of c.loop-place.found c.args.title.now (fields_of c.args.row.now)
    c.loop-place.place (omega arith) c.loop-place.invariant
