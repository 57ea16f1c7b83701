use Rattle.sheet_format.proofs.OneAnswer.{sheet-or-fault}
use Rattle.sheet_format.proofs.laws.some_answer.Goals as goal

pub returns : goal.returns
returns c = sheet-or-fault
