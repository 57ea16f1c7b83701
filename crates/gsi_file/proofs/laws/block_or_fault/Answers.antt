use Rattle.gsi_file.proofs.LawLemmas.{block_or_fault}
use Rattle.gsi_file.proofs.laws.block_or_fault.Goals as goal

pub returns : goal.returns
returns c = block_or_fault
