use Rattle.gsi_word.proofs.LineCases.{block_or_fault}
use Rattle.gsi_word.proofs.laws.block_or_fault.Goals as goal

pub returns : goal.returns
returns c = block_or_fault
