use Rattle.changed_lines.proofs.CopiedLines.{unchanged}
use Rattle.changed_lines.proofs.laws.no_change.Goals as goal

pub returns : goal.returns
returns c = unchanged
