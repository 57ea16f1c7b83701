use Rattle.set_marks.proofs.BeforeAndAfter.{before_and_after}
use Rattle.set_marks.proofs.division_laws.before_and_after.Goals as goal

pub returns : goal.returns
returns c = before_and_after
