use Rattle.std.proofs.Common.{sym}
use Rattle.gsi_word.proofs.BlockLaws.{slice_get-words_from_past}
use Rattle.gsi_word.proofs.block.Block.word.Goals as goal

pub returns-else-i-self-clause-value : goal.returns-else-i-self-clause-value
returns-else-i-self-clause-value c =
    let b = c.args.self.now in
    sym (slice_get-words_from_past b.width b.count c.args.i b.bytes.now c.if-i-self.false)
