-- The station that is found by a name.
use Rattle.std.proofs.Common.{◌≡◌, ℕ, Bool, true, false, List, [], ◌∷◌, Some, refl, sym, ap, ◌∙◌}
use Rattle.std.proofs.Common.{if◌then◌else◌, find}
use Rattle.std.specs.Str.{bytes_eq}
use Rattle.std.proofs.lemmas.Slice.Eq.{bytes_eq-Decides}
use Rattle.station_book.specs.Stations.{SurveyedStation, station_named}

-- What is found passes the test.
find_passes : {X : Type 0} (p : X → Bool) (x : X) (xs : List X) → find p xs ≡ Some x → p x ≡ true
find_passes p x [] e = cc
find_passes p x (y ∷ ys) e = split (find_passes p x ys) (p y) refl e where
  split : (find p ys ≡ Some x → p x ≡ true) → (b : Bool) → p y ≡ b
      → (if b then Some y else find p ys) ≡ Some x → p x ≡ true
  split rest true h g = let same : y ≡ x = cc in sym (ap p same) ∙ h
  split rest false h g = rest g

-- The station that is found by a name has it.
pub has_name : (name : List ℕ) (stations : List SurveyedStation) (its : SurveyedStation)
    → station_named name stations ≡ Some its → its.station.name ≡ name
has_name name stations its e =
    (bytes_eq-Decides its.station.name name).0
    (find_passes (λ (s : SurveyedStation). bytes_eq s.station.name name) its stations e)
