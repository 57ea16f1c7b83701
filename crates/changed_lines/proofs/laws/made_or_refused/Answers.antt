use Rattle.changed_lines.proofs.OneAnswer.{not_both}
use Rattle.changed_lines.proofs.laws.made_or_refused.Goals as goal

pub returns : goal.returns
returns c = λ lines cs fault made is. not_both lines 0 cs fault made is
