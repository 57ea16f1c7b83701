use Rattle.gsi_file.proofs.LawLemmas.{no_fault_in_a_block}
use Rattle.gsi_file.proofs.laws.no_fault_in_a_block.Goals as goal

pub returns : goal.returns
returns c = no_fault_in_a_block
