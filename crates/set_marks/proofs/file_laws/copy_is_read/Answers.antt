use Rattle.set_marks.proofs.CopyRead.{copy_has_blocks, copy_is_found, copy_without}
use Rattle.set_marks.proofs.file_laws.copy_is_read.Goals as goal

pub returns-clause-blocks : goal.returns-clause-blocks
returns-clause-blocks c = copy_has_blocks

pub returns-clause-found : goal.returns-clause-found
returns-clause-found c = copy_is_found

pub returns-clause-back : goal.returns-clause-back
returns-clause-back c = copy_without
