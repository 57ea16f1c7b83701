use Rattle.sheet_format.proofs.TextAgain.{text-again}
use Rattle.sheet_format.proofs.laws.text_stands.Goals as goal

pub returns : goal.returns
returns c = text-again
