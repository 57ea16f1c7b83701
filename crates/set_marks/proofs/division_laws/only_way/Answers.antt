use Rattle.set_marks.proofs.OnlyWay.{only_way}
use Rattle.set_marks.proofs.division_laws.only_way.Goals as goal

pub returns : goal.returns
returns c = only_way
