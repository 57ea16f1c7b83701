use Rattle.changed_lines.proofs.RenamedBlocks.{read_back}
use Rattle.changed_lines.proofs.laws.name_is_read_back.Goals as goal

pub returns : goal.returns
returns c = read_back
