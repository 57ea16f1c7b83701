use Rattle.gsi_file.proofs.LawLemmas.{one_fault}
use Rattle.gsi_file.proofs.laws.one_fault.Goals as goal

pub returns : goal.returns
returns c = one_fault
