use Rattle.changed_lines.proofs.CopiedLines.{copied_lines}
use Rattle.changed_lines.proofs.laws.lines_of_the_copy.Goals as goal

pub returns : goal.returns
returns c = copied_lines
