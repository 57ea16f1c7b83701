-- The sets among the readings that are no details are sets of all.
use Rattle.std.proofs.Common.{◌≡◌, ℕ, zero, suc, ◌≤◌, Bool, true, false, List}
use Rattle.std.proofs.Common.{[], ◌∷◌, length, take, drop, Some, None, refl, sym}
use Rattle.std.proofs.Common.{ap, subst, ◌∙◌, inl, inr, arith, All}
use Rattle.std.specs.Prelude.{if◌then◌else◌}
use Rattle.std.specs.List.{list_any}
use Rattle.std.proofs.lemmas.Bool.{cases_Bool, or_cases, false≢true}
use Rattle.std.proofs.lemmas.List.Elements.{All-nil, All-cons, All-head, All-tail}
use Rattle.std.proofs.lemmas.Slice.Eq.{bytes_eq-Decides}
use Rattle.set_marks.specs.declared.sight.Sight.{Sight}
use Rattle.set_marks.specs.Divisions.{is_of, known_in, place_of, unknown_in}
use Rattle.set_marks.specs.Divisions.{is_some_known, end_of}

-- whether a reading's target is one of the others'
abbrev pub is_known : List Sight → Sight → Bool
is_known others r = list_any (is_of r.target) others

-- The first reading stands at the first place, where it is known.
pub first_place : (others : List Sight) (r : Sight) (rs : List Sight) → is_known others r ≡ true
    → place_of others 0 (r ∷ rs) ≡ 0
first_place others r rs h = rw h refl

-- From the place of a reading on, the others' targets are those after so many of them.
pub known_after : (others : List Sight) (count : ℕ) (rs : List Sight)
    → known_in others (drop (place_of others count rs) rs) ≡ drop count (known_in others rs)
known_after others zero [] = refl
known_after others (suc count) [] = refl
known_after others zero (r ∷ rs) = elim (cases_Bool (is_known others r)) [
  | inl h ↦ ap (λ (k : ℕ). known_in others (drop k (r ∷ rs))) (first_place others r rs h)
  | inr h ↦ rw h (known_after others zero rs)
]
known_after others (suc count) (r ∷ rs) = elim (cases_Bool (is_known others r)) [
  | inl h ↦ rw h (known_after others count rs)
  | inr h ↦ rw h (known_after others (suc count) rs)
]

-- The reading at the place of one of the others' targets is known.
pub next_known : (others : List Sight) (count : ℕ) (rs : List Sight)
    → All (λ r. is_known others r ≡ true) (take 1 (drop (place_of others count rs) rs))
next_known others zero [] = All-nil (λ (r : Sight). is_known others r ≡ true)
next_known others (suc count) [] = All-nil (λ (r : Sight). is_known others r ≡ true)
next_known others zero (r ∷ rs) = elim (cases_Bool (is_known others r)) [
  | inl h ↦ subst (λ (k : ℕ). All (λ s. is_known others s ≡ true) (take 1 (drop k (r ∷ rs))))
      (sym (first_place others r rs h))
      (All-cons (λ (s : Sight). is_known others s ≡ true) r [] h
      (All-nil (λ (s : Sight). is_known others s ≡ true)))
  | inr h ↦ rw h (next_known others zero rs)
]
next_known others (suc count) (r ∷ rs) = elim (cases_Bool (is_known others r)) [
  | inl h ↦ rw h (next_known others count rs)
  | inr h ↦ rw h (next_known others (suc count) rs)
]

-- Where all targets are known, none is unknown.
pub none_unknown : (others rs : List Sight) → All (λ r. is_known others r ≡ true) rs
    → unknown_in others rs ≡ None
none_unknown others [] all = refl
none_unknown others (r ∷ rs) all =
    let here = All-head (λ (s : Sight). is_known others s ≡ true) r rs all in
    rw here (none_unknown others rs (All-tail (λ (s : Sight). is_known others s ≡ true) r rs all))

-- Where no target is unknown, all are known.
pub all_known : (others rs : List Sight) → unknown_in others rs ≡ None
    → All (λ r. is_known others r ≡ true) rs
all_known others [] e = All-nil (λ (r : Sight). is_known others r ≡ true)
all_known others (r ∷ rs) e = elim (cases_Bool (is_known others r)) [
  | inl h ↦ All-cons (λ (s : Sight). is_known others s ≡ true) r rs h
      (all_known others rs (rw h at e))
  | inr h ↦ let f : Some r ≡ None = rw h at e in cc
]

pub all_kept : (others rs : List Sight) → All (λ r. is_known others r ≡ true) rs
    → known_in others rs ≡ rs
all_kept others [] all = refl
all_kept others (r ∷ rs) all =
    let here = All-head (λ (s : Sight). is_known others s ≡ true) r rs all in
    rw here (ap (λ xs. r ∷ xs)
    (all_kept others rs (All-tail (λ (s : Sight). is_known others s ≡ true) r rs all)))

-- Where no target is unknown, no reading is left out.
pub none_left_out : (others rs : List Sight) → unknown_in others rs ≡ None
    → rs ≡ known_in others rs
none_left_out others rs none = sym (all_kept others rs (all_known others rs none))

-- No reading is known where none is kept.
pub none_kept : (others rs : List Sight) → known_in others rs ≡ []
    → All (λ r. is_known others r ≡ false) rs
none_kept others [] e = All-nil (λ (r : Sight). is_known others r ≡ false)
none_kept others (r ∷ rs) e = elim (cases_Bool (is_known others r)) [
  | inl h ↦ let f : r ∷ known_in others rs ≡ [] = rw h at e in cc
  | inr h ↦ All-cons (λ (s : Sight). is_known others s ≡ false) r rs h
      (none_kept others rs (rw h at e))
]

-- There are no more of them than readings.
pub few_known : (others rs : List Sight) → length (known_in others rs) ≤ length rs
few_known others [] = omega arith
few_known others (r ∷ rs) = let few = few_known others rs in elim (cases_Bool (is_known others r)) [
  | inl h ↦ rw h (omega (arith, few))
  | inr h ↦ rw h (omega (arith, few))
]

-- A reading whose target is one of readings with known targets has a known one.
same_known : (others ys : List Sight) (r : Sight) → All (λ y. is_known others y ≡ true) ys
    → is_known ys r ≡ true → is_known others r ≡ true
same_known others [] r all e = cc
same_known others (y ∷ ys) r all e = elim (or_cases (is_of r.target y) (is_known ys r) e) [
  | inl h ↦ subst (λ (name : List ℕ). list_any (is_of name) others ≡ true)
      ((bytes_eq-Decides y.target r.target).0 h)
      (All-head (λ (s : Sight). is_known others s ≡ true) y ys all)
  | inr h ↦ same_known others ys r (All-tail (λ (s : Sight). is_known others s ≡ true) y ys all) h
]

-- Where none of the readings with known targets is of some of these, no reading is.
pub strange_too : (others ys rs : List Sight) → All (λ y. is_known others y ≡ true) ys
    → All (λ r. is_known ys r ≡ false) (known_in others rs) → All (λ r. is_known ys r ≡ false) rs
strange_too others ys [] all none = All-nil (λ (r : Sight). is_known ys r ≡ false)
strange_too others ys (r ∷ rs) all none = elim (cases_Bool (is_known others r)) [
  | inl h ↦
      let split : All (λ s. is_known ys s ≡ false) (r ∷ known_in others rs) = rw h at none in
      All-cons (λ (s : Sight). is_known ys s ≡ false) r rs
      (All-head (λ (s : Sight). is_known ys s ≡ false) r (known_in others rs) split)
      (strange_too others ys rs all
      (All-tail (λ (s : Sight). is_known ys s ≡ false) r (known_in others rs) split))
  | inr h ↦ All-cons (λ (s : Sight). is_known ys s ≡ false) r rs
      (elim (cases_Bool (is_known ys r)) [
        | inl k ↦ absurd (false≢true (sym h ∙ same_known others ys r all k))
        | inr k ↦ k
      ]) (strange_too others ys rs all (rw h at none))
]

-- The end is none beyond the readings.
pub end_within : (others rs : List Sight) → end_of others rs ≤ length rs
end_within others [] = omega arith
end_within others (r ∷ rs) =
    by (is_some_known others (r ∷ rs)) (end_of others rs) (end_within others rs) where
      by : (b : Bool) (n : ℕ) → n ≤ length rs → (if b then suc n else 0) ≤ suc (length rs)
      by true n below = omega (arith, below)
      by false n below = omega arith
