-- The directions that rows state, as one more row comes.
use Rattle.std.proofs.Common.{◌≡◌, ◌≢◌, ◌⊎◌, ◌∙◌, ℕ, ◌<◌, Bool, false, List, [], ◌∷◌, ◌++◌, map}
use Rattle.std.proofs.Common.{length, get_or, Option, None, Some, refl, sym, ap, arith, ℤ, inl, inr}
use Rattle.std.proofs.Common.{length-set, get_or-set_other, get_or-set_same, Result, Ok, Err}
use Rattle.std.specs.Prelude.{not, slice_set}
use Rattle.std.specs.Option.{is_some, option_or}
use Rattle.std.specs.Result.{IsErr, IsErrAnd, MatchResult}
use Rattle.std.specs.Str.{bytes_eq}
use Rattle.std.proofs.lemmas.Bool.{cases_Bool, cases_eq, cases_lt, false_from_ne_true}
use Rattle.std.proofs.lemmas.List.{ext_get_or, get_or-map, length-map}
use Rattle.std.proofs.lemmas.Slice.Eq.{bytes_eq-Decides}
use Rattle.adjust_kernel.specs.Stations.{AreTargets}
use Rattle.sheet_format.specs.RowFaults.{unless}
use Rattle.direction_table.specs.Faults.{entry_fault, stating_fault}
use Rattle.direction_table.specs.Directions.{direction_value}
use Rattle.direction_table.specs.Rows.{TwoColumns, two_columns_of, direction_in, name_of}
use Rattle.direction_table.specs.FieldForms.{has_name}
use Rattle.direction_table.specs.declared.fault.RowKind.TheVariants as fault
use Rattle.direction_table.specs.declared.unit.AngleUnit.{AngleUnit}
use Rattle.direction_table.proofs.TwoColumns.{row-is}

-- Rows state a direction of a name exactly where one of them has the name.
stated_is : (unit : AngleUnit) (rows : List (List (List ℕ))) (name : List ℕ)
    → is_some (direction_in unit rows name) ≡ has_name (map name_of rows) name
stated_is unit [] name = refl
stated_is unit (row ∷ rows) name = elim (cases_Bool (bytes_eq (name_of row) name)) [
  | inl e ↦ rw e refl
  | inr e ↦ rw e (stated_is unit rows name)
]

-- With one more row they state what they stated, or else what it states.
more : (unit : AngleUnit) (rows : List (List (List ℕ))) (row : List (List ℕ)) (name : List ℕ)
    → direction_in unit (rows ++ (row ∷ [])) name
    ≡ option_or (direction_in unit rows name) (direction_in unit (row ∷ []) name)
more unit [] row name = refl
more unit (first ∷ rows) row name = elim (cases_Bool (bytes_eq (name_of first) name)) [
  | inl e ↦ rw e refl
  | inr e ↦ rw e (more unit rows row name)
]

-- Where no direction is said to be there, there is none.
none-there : (o : Option ℤ) → is_some o ≡ false → o ≡ None
none-there None e = refl
none-there (Some v) e = cc e

or-none : (o : Option ℤ) → o ≡ option_or o None
or-none None = refl
or-none (Some v) = refl

-- A row that is about to be taken: its columns, which have no fault, the place of its target, and
-- what the rows before it state.
pub record Taken (unit : AngleUnit) (targets : List (List ℕ)) (before : List (List (List ℕ)))
    (directions : List (Option ℤ)) (row : List (List ℕ)) (place : ℕ) (c : TwoColumns) : Type 0 where
  pub columns : two_columns_of row ≡ Some c
  pub clean : entry_fault unit targets c ≡ None
  pub inside : place < length targets
  pub name : get_or targets place [] ≡ c.name
  pub stated : directions ≡ map (direction_in unit before) targets

module _ {unit : AngleUnit} {targets : List (List ℕ)} {before : List (List (List ℕ))}
    {directions : List (Option ℤ)} {row : List (List ℕ)} {place : ℕ} {c : TwoColumns}
    (t : Taken unit targets before directions row place c) where
  -- What is kept at the place is what the rows before state of the row's name.
  kept : get_or directions place None ≡ direction_in unit before c.name
  kept = rw t.stated (get_or-map (direction_in unit before) targets place [] None t.inside
      ∙ ap (direction_in unit before) t.name)

  -- The row is the second of its target, or has no fault.
  pub fault-taken : {there : Bool} → is_some (get_or directions place None) ≡ there
      → stating_fault unit targets before row ≡ unless (not there) fault.Twice
  unfolding stating_fault
  fault-taken {there} e =
      let has : has_name (map name_of before) c.name ≡ there =
      sym (stated_is unit before c.name) ∙ sym (ap is_some kept) ∙ e in
      rw (t.columns, t.clean, has) refl

  -- The names of two places are not alike.
  other-name : (i : ℕ) → AreTargets targets → i < length targets → i ≢ place
      → bytes_eq c.name (get_or targets i []) ≡ false
  other-name i ok inside other =
      false_from_ne_true _ (λ e.
      let same = t.name ∙ (bytes_eq-Decides c.name (get_or targets i [])).0 e in
      elim (cases_lt i place) [
        | inl before ↦ ok.different i place [] before t.inside (sym same)
        | inr after ↦ ok.different place i [] (omega (arith, after, other)) inside same
      ])

  -- The row's direction, put at the place of its target, makes what the rows with that one state.
  pub taken : (v : ℤ) → AreTargets targets → is_some (get_or directions place None) ≡ false
      → v ≡ direction_value unit c.direction
      → slice_set directions place (Some v) ≡ map (direction_in unit (before ++ (row ∷ []))) targets
  taken v ok none value = ext_get_or None _ _ long at
    where
      size : length directions ≡ length targets
      size = rw t.stated (length-map targets (direction_in unit before))

      long : length (slice_set directions place (Some v))
          ≡ length (map (direction_in unit (before ++ (row ∷ []))) targets)
      long = length-set directions place (Some v) ∙ size ∙ sym (length-map targets _)

      at : (i : ℕ) → i < length (slice_set directions place (Some v))
          → get_or (slice_set directions place (Some v)) i None
          ≡ get_or (map (direction_in unit (before ++ (row ∷ []))) targets) i None
      at i below =
          let inside : i < length targets = omega (
            arith,
            below,
            length-set directions place (Some v),
            size,
          ) in
          rw (
            get_or-map (direction_in unit (before ++ (row ∷ []))) targets i [] None inside,
            more unit before row (get_or targets i []),
            row-is row c t.columns,
          )
          (elim (cases_eq i place) [
            | inl e ↦ rw (
              e,
              get_or-set_same directions place (Some v) None (omega (arith, size, t.inside)),
              t.name,
              ← kept,
              none-there (get_or directions place None) none,
              (bytes_eq-Decides c.name c.name).1 refl,
            ) (ap Some value)
            | inr e ↦ rw (
              get_or-set_other directions place i (Some v) None e,
              t.stated,
              get_or-map (direction_in unit before) targets i [] None inside,
              other-name i ok inside e,
            ) (or-none (direction_in unit before (get_or targets i [])))
          ])

-- What an error is handed on with says what follows from what was known of it.
pub lifted-cases : {T E : Type 0} (r : Result T E) (P Q : E → Type 0) (R : T → Type 0)
    → IsErr r × IsErrAnd r P → ((k : E) → P k → Q k) → MatchResult r R Q
lifted-cases (Ok x) P Q R h f = cc (h.0)
lifted-cases (Err k) P Q R h f = f k h.1

-- One that is one of two is handed on as that.
pub lifted-is : {T E : Type 0} (r : Result T E) (k one other : E)
    → IsErr r × IsErrAnd r (λ e. e ≡ k) → (k ≡ one) ⊎ (k ≡ other)
    → (r ≡ Err one) ⊎ (r ≡ Err other)
lifted-is (Ok x) k one other h is = cc (h.0)
lifted-is (Err e) k one other h (inl is) = inl (ap Err (h.1 ∙ is))
lifted-is (Err e) k one other h (inr is) = inr (ap Err (h.1 ∙ is))
