use Rattle.sheet_format.proofs.OneAnswer.{never-both}
use Rattle.sheet_format.proofs.laws.never_both.Goals as goal

pub returns : goal.returns
returns c = never-both
