-- Of different names each has one place, wherever it is looked for first.
use Rattle.std.proofs.Common.{◌≡◌, ◌≢◌, ℕ, ◌<◌, ◌≤◌, true, cond, not, ltb, ◌⊎◌, inl, inr, List, []}
use Rattle.std.proofs.Common.{length, get_or, AllPairs, Some, None, sym, ap, ◌∙◌, arith}
use Rattle.std.specs.Prelude.{slice_get}
use Rattle.std.specs.List.{prefix_len}
use Rattle.std.specs.Str.{bytes_eq}
use Rattle.std.proofs.lemmas.Bool.{lt-ltb, false≢true, false_from_ne_true}
use Rattle.std.proofs.lemmas.List.Sums.{prefix_len_is}
use Rattle.std.proofs.lemmas.Option.{get_or_from_slice_get, slice_get_cases}
use Rattle.std.proofs.lemmas.Slice.Eq.{bytes_eq-Decides}
use Rattle.station_book.specs.StationState.{is_named, place_of}

-- A name that differs is no match.
other_name : (a b name : List ℕ) → b ≡ name → a ≢ b → not (bytes_eq a name) ≡ true
other_name a b name same differ = ap not (false_from_ne_true (bytes_eq a name)
    (λ e. differ ((bytes_eq-Decides a name).0 e ∙ sym same)))

abbrev IsThere : List (List ℕ) → ℕ → Type 0
IsThere targets i =
    ((x : List ℕ) × (i < length targets) × (slice_get targets i ≡ Some x)
    × (get_or targets i x ≡ x)) ⊎ ((length targets ≤ i) × (slice_get targets i ≡ None))

-- Of different names, the place at which one stands is the place that is found for it.
pub placed : (name : List ℕ) (targets : List (List ℕ)) (i : ℕ) → AllPairs (λ a b. a ≢ b) targets
    → is_named name (slice_get targets i) ≡ true → Some i ≡ place_of name targets
placed name targets i different e = split (slice_get_cases targets i).1 where
  at : (x : List ℕ) → i < length targets → slice_get targets i ≡ Some x
      → Some i ≡ place_of name targets
  at x inside is =
      let same : x ≡ name = (bytes_eq-Decides x name).0 (sym (ap (is_named name) is) ∙ e) in
      let here : get_or targets i [] ≡ name = get_or_from_slice_get targets i x [] is ∙ same in
      let first : prefix_len (λ t. not (bytes_eq t name)) targets ≡ i =
      prefix_len_is (λ t. not (bytes_eq t name)) targets i [] (omega (arith, inside))
      (λ k lt. other_name (get_or targets k []) (get_or targets i []) name here
      (different k i [] lt inside))
      (λ lt. ap not ((bytes_eq-Decides (get_or targets i []) name).1 here)) in
      sym (ap (λ (k : ℕ). cond (ltb k (length targets)) (Some k) None) first
      ∙ ap (λ v. cond v (Some i) None) (lt-ltb i (length targets) inside))

  split : IsThere targets i → Some i ≡ place_of name targets
  split (inr none) = absurd (false≢true (sym (ap (is_named name) none.1) ∙ e))
  split (inl there) = at there.0 there.1 there.2
