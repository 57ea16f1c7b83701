-- The target that has a name, as a search finds it.
use Rattle.std.proofs.Common.{◌≡◌, ℕ, Bool, true, false, List, [], length, get_or, Option, None}
use Rattle.std.proofs.Common.{Some, IfSome, IfNone, OnSome, sym, arith, inl, inr}
use Rattle.std.specs.List.{list_any, position, position_or_len}
use Rattle.std.specs.Str.{bytes_eq}
use Rattle.std.proofs.lemmas.Bool.{cases_lt, lt-ltb}
use Rattle.std.proofs.lemmas.List.Folds.{list_any_at, list_any_none}
use Rattle.std.proofs.lemmas.List.Quantifiers.{position-Some}
use Rattle.std.proofs.lemmas.List.Sums.{fails_before_first}
use Rattle.std.proofs.lemmas.Slice.Eq.{bytes_eq-Decides}
use Rattle.direction_table.specs.FieldForms.{has_name}

-- Whether a target has this name.
abbrev pub is_named : List ℕ → List ℕ → Bool
is_named name target = bytes_eq target name

none-passes : (p : List ℕ → Bool) (names : List (List ℕ)) → position p names ≡ None
    → list_any p names ≡ false
none-passes p names e = elim (cases_lt (position_or_len p names) (length names)) [
  | inl inside ↦ let some = rw (lt-ltb _ _ inside) at e in cc
  | inr past ↦ list_any_none p names (λ k d below. fails_before_first p names k d
      (omega (arith, past, below)))
]

-- The target at the place that the search finds has the name.
pub named_name : (targets : List (List ℕ)) (name : List ℕ) (o : Option ℕ)
    → o ≡ position (is_named name) targets → IfSome o (λ place. get_or targets place [] ≡ name)
named_name targets name None e = tt
named_name targets name (Some place) e =
    let found = position-Some (is_named name) targets place [] (sym e) in
    (bytes_eq-Decides (get_or targets place []) name).0 found.1

-- Where the search finds a place, some target has the name.
pub named_some : (targets : List (List ℕ)) (name : List ℕ) (o : Option ℕ)
    → o ≡ position (is_named name) targets → OnSome o (has_name targets name ≡ true)
named_some targets name None e = tt
named_some targets name (Some place) e =
    let found = position-Some (is_named name) targets place [] (sym e) in
    list_any_at (is_named name) targets place [] found.0 found.1

-- Where the search finds none, no target has the name.
pub named_none : (targets : List (List ℕ)) (name : List ℕ) (o : Option ℕ)
    → o ≡ position (is_named name) targets → IfNone o (has_name targets name ≡ false)
named_none targets name None e = none-passes (is_named name) targets (sym e)
named_none targets name (Some place) e = tt

-- By these a search for a name is proved.
pub ruleset as_named = (named_name, named_some, named_none)
