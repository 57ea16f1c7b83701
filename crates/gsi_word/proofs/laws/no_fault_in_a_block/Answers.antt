use Rattle.gsi_word.proofs.LineLaws.{no_fault}
use Rattle.gsi_word.proofs.laws.no_fault_in_a_block.Goals as goal

pub returns : goal.returns
returns c = no_fault
