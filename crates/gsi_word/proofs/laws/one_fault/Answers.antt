use Rattle.gsi_word.proofs.LineLaws.{same_fault}
use Rattle.gsi_word.proofs.laws.one_fault.Goals as goal

pub returns : goal.returns
returns c = same_fault
