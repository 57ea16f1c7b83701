use Rattle.std.proofs.Common.{sym, subst}
use Rattle.gsi_word.specs.Blocks.{IsBlock}
use Rattle.gsi_word.proofs.plain.reading_block.Goals as goal

pub returns : goal.returns
returns c =
    subst (IsBlock c.args.line.now) (sym c.block_in.ensures) c.reading_shape.ensures.block
