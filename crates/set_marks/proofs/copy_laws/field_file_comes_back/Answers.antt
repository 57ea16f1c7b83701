use Rattle.set_marks.proofs.Unmarked.{bytes_come_back, unmarked_woven}
use Rattle.set_marks.proofs.copy_laws.field_file_comes_back.Goals as goal

pub returns-clause-back : goal.returns-clause-back
returns-clause-back c = bytes_come_back

pub returns-clause-unmarked : goal.returns-clause-unmarked
returns-clause-unmarked c = unmarked_woven 0
