use Rattle.gsi_word.specs.BlockViews.{block_of}
use Rattle.set_marks.proofs.PlainParts.{is_known}
use Rattle.set_marks.proofs.walk.said_by.Goals as goal

pub returns-then-line : goal.returns-then-line
returns-then-line c =
    is_known c.args.line.now.bytes.now (block_of c.args.line.now.block) c.read_plain.result
    (c.args.line.now.is_plain c.if-line.true) c.requires c.read_plain.ensures
