use Rattle.sheet_format.proofs.OneAnswer.{one-sheet}
use Rattle.sheet_format.proofs.laws.one_sheet.Goals as goal

pub returns : goal.returns
returns c = one-sheet
