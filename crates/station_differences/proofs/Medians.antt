-- The lower median of rows, as it is found by counting.
use Rattle.std.specs.Prelude.{nat_le, nat_lt}
use Rattle.std.specs.List.{find, position, position_or_len}
use Rattle.std.proofs.Common.{◌≡◌, ◌∙◌, ℕ, ◌-◌, ◌*◌, ◌≤◌, ◌<◌, Bool, true, false, List, length, ap, arith}
use Rattle.std.proofs.Common.{Some, None, get_or, inl, inr}
use Rattle.std.proofs.lemmas.Bool.{cases_Bool}
use Rattle.std.proofs.lemmas.List.Folds.{find_at}
use Rattle.std.proofs.lemmas.Option.{slice_get-get_or, slice_get_cases}
use Rattle.std.specs.Prelude.{slice_get}

-- Fewer than half of so many are fewer than the others.
pub fewer : (n b : ℕ) → b ≤ n → nat_lt b (n - b) ≡ nat_lt (2 * b) n
fewer n b few = grind arith

pub are_fewer : (n b : ℕ) → b ≤ n → b < n - b → nat_lt (2 * b) n ≡ true
are_fewer n b few less = grind arith

pub are_half : (n b : ℕ) → b ≤ n → n - b ≤ b → nat_lt (2 * b) n ≡ false
are_half n b few more = grind arith

-- Half of so many or more are no fewer than the others.
pub half : (n k : ℕ) → k ≤ n → nat_le (n - k) k ≡ nat_le n (2 * k)
half n k few = grind arith

-- What is found is what stands at the first place.
pub found : {X : Type 0} (p : X → Bool) (xs : List X) (place : ℕ) (d : X)
    → Some place ≡ position p xs → place < length xs → find p xs ≡ Some (get_or xs place d)
found p xs place d e inside =
    elim (cases_Bool (nat_lt (position_or_len p xs) (length xs))) [
      | inl t ↦
          let same : Some place ≡ Some (position_or_len p xs) = rw t at e in
          let is : position_or_len p xs ≡ place = cc in
          find_at p xs ∙ ap (slice_get xs) is ∙ slice_get-get_or xs place d inside
      | inr f ↦ cc (rw f at e)
    ]

-- Nothing is found where there is no place.
pub unfound : {X : Type 0} (p : X → Bool) (xs : List X) → None ≡ position p xs
    → find p xs ≡ None
unfound p xs e =
    elim (cases_Bool (nat_lt (position_or_len p xs) (length xs))) [
      | inl t ↦ cc (rw t at e)
      | inr f ↦ elim (slice_get_cases xs (position_or_len p xs)).1 [
        | inl (x, inside, is, there) ↦ absurd (grind arith)
        | inr (past, none) ↦ find_at p xs ∙ none
      ]
    ]
