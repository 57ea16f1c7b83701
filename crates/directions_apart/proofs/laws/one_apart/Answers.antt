use Rattle.directions_apart.proofs.ApartLaws.{one_apart}
use Rattle.directions_apart.proofs.laws.one_apart.Goals as goal

pub returns : goal.returns
returns c = one_apart
