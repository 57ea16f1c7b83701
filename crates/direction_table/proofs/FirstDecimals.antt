-- The first decimals of a direction are those of a longer text.
use Rattle.std.proofs.Common.{◌≡◌, ◌≤◌, ◌∙◌, ◌++◌, ◌∷◌, [], ℕ, zero, suc, ◌+◌, ◌-◌, List, ap, sym}
use Rattle.std.proofs.Common.{◌/◌, ◌%◌, ◌^◌, append_assoc, subst, arith}
use Rattle.std.proofs.lemmas.List.{append-nil}
use Rattle.std.specs.Prelude.{Result, Ok, Err, OnErr}
use Rattle.direction_table.specs.Beginnings.{IsBegun}
use Rattle.direction_table.specs.Texts.{decimals_of}
use Rattle.direction_table.proofs.Begun.{first_part}

-- Decimals, and those that come after them.
then_others : (more k direction : ℕ) → (rest : List ℕ)
    × (decimals_of (k + more) direction ≡ decimals_of k direction ++ rest)
then_others zero k direction =
    let none : k + 0 ≡ k = omega arith in (
      [],
      ap (λ (n : ℕ). decimals_of n direction) none ∙ sym (append-nil (decimals_of k direction)),
    )
then_others (suc more) k direction =
    let before = then_others more k direction in
    let one : k + suc more ≡ suc (k + more) = omega arith in
    let last = (48 + direction / 10 ^ (8 - (k + more)) % 10) ∷ [] in (
      before.0 ++ last,
      ap (λ (n : ℕ). decimals_of n direction) one
          ∙ (ap (λ (l : List ℕ). l ++ last) before.1
          ∙ append_assoc (decimals_of k direction) before.0 last),
    )

-- Where the first of them were added, a beginning of all was.
pub first_decimals : (k count direction : ℕ) (old new : List ℕ) → k ≤ count
    → new ≡ old ++ decimals_of k direction → IsBegun (decimals_of count direction) old new
first_decimals k count direction old new le h =
    let others = then_others (count - k) k direction in
    let whole : k + (count - k) ≡ count = omega (arith, le) in
    subst (λ (text : List ℕ). IsBegun text old new)
    (sym others.1 ∙ ap (λ (n : ℕ). decimals_of n direction) whole)
    (first_part (decimals_of k direction) others.0 old new h)

-- What holds, whatever was answered, is so where a failure was.
pub in_any_case : {T E P : Type 0} (r : Result T E) → P → OnErr r P
in_any_case (Ok x) p = tt
in_any_case (Err e) p = p

-- What follows from what is so where a failure was.
pub so_err : {T E P Q : Type 0} (r : Result T E) → (P → Q) → OnErr r P → OnErr r Q
so_err (Ok x) next p = tt
so_err (Err e) next p = next p
