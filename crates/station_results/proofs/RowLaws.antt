-- Rows of observations, one after the other.
use Rattle.std.proofs.Common.{◌≡◌, List, [], ◌∷◌, map, All, ℤ, ap, refl}
use Rattle.std.proofs.lemmas.List.Elements.{All-cons, All-head, All-nil, All-tail}
use Rattle.std.specs.List.{AllZip}
use Rattle.adjust_kernel.specs.TurnedObservations.{TurnedObservation}
use Rattle.adjust_kernel.specs.Turns.{with_turns}

-- What every pair has, every second of a pair has.
pub all_seconds : {A B : Type 0} (R : A → B → Type 0) (P : B → Type 0) (xs : List A) (ys : List B)
    → AllZip R xs ys → ((x : A) (y : B) → R x y → P y) → All P ys
all_seconds R P [] [] h f = All-nil P
all_seconds R P [] (y ∷ ys) h f = absurd h
all_seconds R P (x ∷ xs) [] h f = absurd h
all_seconds R P (x ∷ xs) (y ∷ ys) h f =
    All-cons P y ys (f x y h.0) (all_seconds R P xs ys h.1 f)

-- What pairs have, where the first of each is changed.
pub zip_changed : {A B : Type 0} (R Q : A → B → Type 0) (P : A → Type 0) (g : A → A) (xs : List A)
    (ys : List B) → All P xs → AllZip R xs ys → ((x : A) (y : B) → P x → R x y → Q (g x) y)
    → AllZip Q (map g xs) ys
zip_changed R Q P g [] [] all h f = tt
zip_changed R Q P g [] (y ∷ ys) all h f = absurd h
zip_changed R Q P g (x ∷ xs) [] all h f = absurd h
zip_changed R Q P g (x ∷ xs) (y ∷ ys) all h f = (
  f x y (All-head P x xs all) h.0,
  zip_changed R Q P g xs ys (All-tail P x xs all) h.1 f,
)

-- Turns that come of the observations themselves.
pub turned_each : (f : TurnedObservation → ℤ) (rs : List TurnedObservation)
    → with_turns rs (map f rs) ≡ map (λ (r : TurnedObservation). record r { turn = f r }) rs
turned_each f [] = refl
turned_each f (r ∷ rs) = ap (λ xs. record r { turn = f r } ∷ xs) (turned_each f rs)
