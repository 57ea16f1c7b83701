-- How many bytes of one kind a text begins with: the place of the first of another kind, or its
-- end.
use Rattle.std.proofs.Common.{◌≡◌, ◌∙◌, ℕ, Bool, List, [], ◌∷◌, length}
use Rattle.std.proofs.Common.{Option, refl, ap, arith, inl, inr}
use Rattle.std.specs.Prelude.{not, unwrap_or}
use Rattle.std.specs.List.{position, position_or_len, prefix_len}
use Rattle.std.proofs.lemmas.Bool.{cases_Bool, cases_lt, le-ltb, lt-ltb}
use Rattle.std.proofs.lemmas.List.Sums.{prefix_len-le-length}

-- The first that is not so stands where those that are so end.
first-other : (p : ℕ → Bool) (bytes : List ℕ)
    → position_or_len (λ b. not (p b)) bytes ≡ prefix_len p bytes
first-other p [] = refl
first-other p (b ∷ bytes) = elim (cases_Bool (p b)) [
  | inl e ↦ rw (e, first-other p bytes) refl
  | inr e ↦ rw e refl
]

pub prefix-is : (p : ℕ → Bool) (bytes : List ℕ) (found : Option ℕ) (place : ℕ)
    → found ≡ position (λ b. not (p b)) bytes
    → place ≡ unwrap_or found (length bytes) → place ≡ prefix_len p bytes
prefix-is p bytes found place e is =
    elim (cases_lt (position_or_len (λ b. not (p b)) bytes) (length bytes)) [
      | inl inside ↦ is ∙ ap (λ o. unwrap_or o (length bytes)) (rw (lt-ltb _ _ inside) at e)
          ∙ first-other p bytes
      | inr past ↦
          let within = prefix_len-le-length p bytes in
          is ∙ ap (λ o. unwrap_or o (length bytes)) (rw (le-ltb _ _ past) at e)
          ∙ omega (arith, past, within, first-other p bytes)
    ]
