-- The observations of a station and a sheet, place by place.
use Rattle.std.proofs.Common.{◌≡◌, ℕ, suc, zero, ◌<◌, List, [], ◌∷◌, length, get_or, ap, refl}
use Rattle.std.proofs.Common.{arith}
use Rattle.adjust_kernel.specs.declared.obs.Obs.{Obs}
use Rattle.adjust_kernel.specs.declared.row.Row.{Row}
use Rattle.adjust_kernel.specs.TurnedObservations.{TurnedObservation}
use Rattle.adjust_kernel.specs.Pairs.{turned_by, turned_by_rows}

-- The observation's set is one of this many sets, and its target one of this many targets.
pub record IsPlaced (sets targets : ℕ) (observation : TurnedObservation) : Type 0 where
  pub set_in : observation.set < sets
  pub target_in : observation.target < targets

-- With the full turns of as many rows there are as many observations as before.
pub length-turned_by_rows : (obs : List Obs) (rows : List Row) → length obs ≡ length rows
    → length (turned_by_rows obs rows) ≡ length obs
length-turned_by_rows [] rows e = refl
length-turned_by_rows (o ∷ obs) [] e = cc
length-turned_by_rows (o ∷ obs) (r ∷ rows) e =
    ap suc (length-turned_by_rows obs rows (omega (arith, e)))

-- The observation at a place has the full turns of the row at that place.
pub get_or-turned_by_rows : (obs : List Obs) (rows : List Row) (n : ℕ) (o : Obs) (r : Row)
    (d : TurnedObservation) → length obs ≡ length rows → n < length obs
    → get_or (turned_by_rows obs rows) n d ≡ turned_by (get_or obs n o) (get_or rows n r).turn
get_or-turned_by_rows [] rows n o r d e below = absurd (omega (arith, below))
get_or-turned_by_rows (o2 ∷ obs) [] n o r d e below = cc
get_or-turned_by_rows (o2 ∷ obs) (r2 ∷ rows) zero o r d e below = refl
get_or-turned_by_rows (o2 ∷ obs) (r2 ∷ rows) (suc n) o r d e below =
    get_or-turned_by_rows obs rows n o r d (omega (arith, e)) (omega (arith, below))
