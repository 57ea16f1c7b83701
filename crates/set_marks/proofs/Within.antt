-- Of no sets there is no target.
use Rattle.std.proofs.Common.{◌≡◌, Bool, true, false, List, [], ◌∷◌, refl}
use Rattle.std.specs.Prelude.{◌&&◌, not}
use Rattle.set_marks.specs.declared.sight.Sight.{Sight}
use Rattle.set_marks.specs.Divisions.{is_of}
use Rattle.set_marks.specs.Doubts.{leads_within}

and_false : (b : Bool) → (b && false) ≡ false
and_false true = refl
and_false false = refl

pub none_within : (leading : List Sight) → leads_within leading [] ≡ false
none_within [] = refl
none_within (r ∷ rs) = rw (and_false (r.second && not (is_of [] r))) (none_within rs)
