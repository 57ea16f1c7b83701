use Rattle.set_marks.proofs.NumbersRefuse.{numbers_refuse}
use Rattle.set_marks.proofs.division_laws.numbers_refuse.Goals as goal

pub returns : goal.returns
returns c = numbers_refuse
