use Rattle.gsi_word.proofs.LineLaws.{same_block}
use Rattle.gsi_word.proofs.laws.one_block.Goals as goal

pub returns : goal.returns
returns c = same_block
