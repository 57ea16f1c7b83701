use Rattle.std.proofs.Common.{refl, ◌∷◌}
use Rattle.refusal_places.proofs.NamedNumbers.{left_after}
use Rattle.refusal_places.proofs.laws.faults_are_read_back.Goals as goal

pub returns : goal.returns
returns c = λ n fault small. rw (left_after n 58 (32 ∷ fault) small refl) refl
