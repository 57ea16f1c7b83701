use Rattle.std.proofs.Common.{arith}
use Rattle.list_rows.proofs.CellLaws.{put-start}
use Rattle.list_rows.proofs.put.put_start.Goals as goal

pub returns-clause-text : goal.returns-clause-text
returns-clause-text g c =
    put-start c.put.new.room c.args.room.now c.args.text.now c.args.at c.args.n c.put.result
    (omega (arith, c.requires.room)) (omega (arith, c.requires.short, c.put.ensures.next))
    c.put.ensures.text
