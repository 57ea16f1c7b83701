-- The first of faults that come one after the other.
use Rattle.std.proofs.Common.{◌≡◌, List, ◌∷◌, ◌++◌, Option, None, refl}
use Rattle.station_book.specs.Faults.{first_of}
use Rattle.station_book.specs.State.{then_fault}

-- The first fault of two lists joined is that of the first, or else that of the second.
pub first_append : {X : Type 0} (xs ys : List (Option X))
    → first_of (xs ++ ys) ≡ then_fault (first_of xs) (first_of ys)
first_append (None ∷ xs) ys = first_append xs ys
first_append xs ys = refl
