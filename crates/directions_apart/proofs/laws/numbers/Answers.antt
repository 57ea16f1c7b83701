use Rattle.directions_apart.proofs.ApartLaws.{numbers_near}
use Rattle.directions_apart.proofs.laws.numbers.Goals as goal

pub returns : goal.returns
returns c = numbers_near
