-- The targets of a station, by the map that keeps them.
use Rattle.std.proofs.Common.{◌≡◌, ℕ, suc, cond, List, [], ◌∷◌, ◌++◌, length, position, slice_set}
use Rattle.std.proofs.Common.{get_or, ◌+◌, ◌<◌, ◌≤◌, Some, None, is_some, Result, Ok, IfOk, inl}
use Rattle.std.proofs.Common.{inr, refl, sym, ap, ◌∙◌, subst, arith}
use Rattle.std.specs.List.{position_or_len}
use Rattle.std.specs.Map.{keys_of, values_of, lookup}
use Rattle.std.proofs.lemmas.Bool.{cases_Bool, cases_eq, le-ltb, lt-ltb}
use Rattle.std.proofs.lemmas.Grind.{get_or-set_at}
use Rattle.std.proofs.lemmas.List.{get_or-set_other}
use Rattle.std.proofs.lemmas.Map.Entries.{length-values_of}
use Rattle.indexmap.specs.IndexMap.{insert_entry}
use Rattle.indexmap.specs.Layout.{set_value_at}
use Rattle.station_book.specs.StationState.{place_of}
use Rattle.station_book.proofs.lists.Elements.{same_bytes}
use Rattle.station_book.proofs.lists.NameMaps.{name_eq, names_by_bytes, inserted, found_known}

-- a map's search finds the first of the name
pub found_place : (name : List ℕ) (targets : List (List ℕ))
    → position (name_eq name) targets ≡ place_of name targets
found_place name targets =
    λ i. position (λ t. (names_by_bytes name t ∙ same_bytes name t) i) targets

-- where the first of the name stands, if it stands inside
pub known_place : (name : List ℕ) (targets : List (List ℕ)) (i : ℕ)
    → i ≡ position_or_len (name_eq name) targets → i < length targets
    → Some i ≡ place_of name targets
known_place name targets i first inside = ap Some first
    ∙ sym (ap (λ v. cond v (Some (position_or_len (name_eq name) targets)) None)
    (lt-ltb _ _ (subst (λ (k : ℕ). k < length targets) first inside)))
    ∙ found_place name targets

module _ {V : Type 0} where
  -- a name more goes last
  pub added : (name : List ℕ) (v : V) (es : List (List ℕ × V)) → lookup (name_eq name) es ≡ None
      → insert_entry name_eq es name v ≡ es ++ (name, v) ∷ []
  added name v es none = inserted es name v (sym (found_known name es) ∙ ap is_some none)

  -- The keys stay where a value is changed.
  pub same_keys : (es : List (List ℕ × V)) (i : ℕ) (w : V)
      → keys_of (set_value_at es i w) ≡ keys_of es
  same_keys (e ∷ es) (suc i) w = ap (λ ks. e.0 ∷ ks) (same_keys es i w)
  same_keys es i w = refl

  -- Where a value is changed in a map, it is changed among the values.
  pub set_value : (es : List (List ℕ × V)) (i : ℕ) (w : V)
      → values_of (set_value_at es i w) ≡ slice_set (values_of es) i w
  set_value (e ∷ es) (suc i) w = ap (λ vs. e.1 ∷ vs) (set_value es i w)
  set_value es i w = refl

  -- one value more is this one
  pub emptied : (es : List (List ℕ × V)) (i k : ℕ) (w d : V) → i < length es → k < i + 1
      → ((j : ℕ) → j < i → get_or (values_of es) j d ≡ d) → w ≡ d
      → get_or (values_of (set_value_at es i w)) k d ≡ d
  emptied es i k w d inside lt before is =
      ap (λ (vs : List V). get_or vs k d) (set_value es i w) ∙ elim (cases_eq k i) [
        | inl same ↦ get_or-set_at (values_of es) i k w d same
            (let l = length-values_of es in omega (arith, inside, l)) ∙ is
        | inr differ ↦ get_or-set_other (values_of es) i k w d differ
            ∙ before k (omega (arith, lt, differ))
      ]

  none_before : (name : List ℕ) (es : List (List ℕ × V)) → lookup (name_eq name) es ≡ None
      → length (keys_of es) ≤ position_or_len (name_eq name) (keys_of es)
  none_before name [] e = omega arith
  none_before name (x ∷ es) e = elim (cases_Bool (name_eq name x.0)) [
    | inl t ↦ let g : Some x.1 ≡ None = rw t at e in cc
    | inr f ↦ rw f (let r = none_before name es (rw f at e) in omega (arith, r))
  ]

  -- a name that a map has not has no place
  pub unknown_place : (name : List ℕ) (es : List (List ℕ × V))
      → lookup (name_eq name) es ≡ None → None ≡ place_of name (keys_of es)
  unknown_place name es e =
      sym (ap (λ v. cond v (Some (position_or_len (name_eq name) (keys_of es))) None)
      (le-ltb _ _ (none_before name es e))) ∙ found_place name (keys_of es)

-- What is said of a success holds of its value.
pub of_ok : {X E : Type 0} (P : X → Type 0) (r : Result X E) (x : X) → r ≡ Ok x → IfOk r P → P x
of_ok P r x e h = subst (λ s. IfOk s P) e h
