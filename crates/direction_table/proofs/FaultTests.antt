-- Whether rows have a fault, as a test says it.
use Rattle.std.proofs.Common.{◌≡◌, ◌∙◌, ℕ, ◌≤◌, true, false, List, [], ◌∷◌, ◌++◌, length, ℤ}
use Rattle.std.proofs.Common.{Option, Some, None, ap, sym, arith, refl, inl, inr, append_assoc}
use Rattle.std.proofs.Common.{length-append}
use Rattle.std.specs.List.{list_all}
use Rattle.std.specs.Option.{is_some}
use Rattle.std.proofs.Math.Seq.{drop-append_seam, take-append_seam}
use Rattle.std.proofs.lemmas.Bool.{and_parts, cases_Bool, cases_eq, not-true}
use Rattle.std.proofs.lemmas.List.{append-nil}
use Rattle.std.proofs.lemmas.List.Folds.{list_all-map}
use Rattle.std.proofs.lemmas.Option.{none-some}
use Rattle.sheet_format.specs.RowFaults.{RowRules, fault_at, fault_between}
use Rattle.sheet_format.proofs.RowFaultLaws.{past-end}
use Rattle.direction_table.specs.FaultsOfRows.{AreFaultless, IsRowFaultOrMemory}
use Rattle.direction_table.specs.FoundColumns.{are_faultless, is_table}
use Rattle.direction_table.specs.Rows.{direction_in}
use Rattle.direction_table.specs.Tables.{stated_by}
use Rattle.direction_table.specs.declared.fault.RowKind.{RowKind}
use Rattle.direction_table.specs.declared.fault.TableFault.{TableFault}
use Rattle.direction_table.specs.declared.fault.TableFault.TheVariants.{Memory}
use Rattle.direction_table.specs.declared.unit.AngleUnit.{AngleUnit}

-- Where nothing is said to be there, there is none.
none-there : (o : Option RowKind) → is_some o ≡ false → o ≡ None
none-there None e = refl
none-there (Some kind) e = cc e

-- Where no row has a fault, the test of faults says so.
pub faultless-test : (rules : RowRules (List (List ℕ)) RowKind)
    (all before rows : List (List (List ℕ)))
    → all ≡ before ++ rows → ((place : ℕ) → fault_at rules all place ≡ None)
    → are_faultless rules before rows ≡ true
unfolding fault_between
faultless-test rules all before [] whole clean = refl
faultless-test rules all before (row ∷ rows) whole clean =
    let here = clean (length before) in
    let none : rules.of_row before row ≡ None =
    rw (
      whole,
      take-append_seam before (row ∷ rows),
      drop-append_seam before (row ∷ rows),
    ) at here in
    let later = faultless-test rules all (before ++ (row ∷ [])) rows
    (whole ∙ sym (append_assoc before (row ∷ []) rows)) clean in
    rw (none, later) refl

-- Where it says that there is none, and the end has none, no place has one.
faultless-from : (rules : RowRules (List (List ℕ)) RowKind)
    → ((rows : List (List (List ℕ))) → rules.of_end rows ≡ None)
    → (all before rows : List (List (List ℕ))) → all ≡ before ++ rows
    → are_faultless rules before rows ≡ true → (place : ℕ) → length before ≤ place
    → fault_at rules all place ≡ None
unfolding fault_between
faultless-from rules ends all before [] whole clean place past =
    let same = ap (λ (rows : List (List (List ℕ))). length rows) (whole ∙ append-nil before) in
    past-end rules all place (omega (arith, past, same)) ∙ ends all
faultless-from rules ends all before (row ∷ rows) whole clean place past =
    let (none, later) = and_parts _ _ clean in
    elim (cases_eq place (length before)) [
      | inl same ↦ rw (
        same,
        whole,
        take-append_seam before (row ∷ rows),
        drop-append_seam before (row ∷ rows),
      ) (none-there (rules.of_row before row) (not-true _ none))
      | inr other ↦ faultless-from rules ends all (before ++ (row ∷ [])) rows
          (whole ∙ sym (append_assoc before (row ∷ []) rows)) later place
          (omega (arith, past, other, length-append before (row ∷ [])))
    ]

-- Where some place has a fault, the test says so.
pub fault-test : (rules : RowRules (List (List ℕ)) RowKind)
    → ((rows : List (List (List ℕ))) → rules.of_end rows ≡ None)
    → (all : List (List (List ℕ))) (place : ℕ) (kind : RowKind)
    → fault_at rules all place ≡ Some kind → are_faultless rules [] all ≡ false
fault-test rules ends all place kind found = elim (cases_Bool (are_faultless rules [] all)) [
  | inl e ↦ absurd (none-some kind
      (sym (faultless-from rules ends all [] all refl e place (omega arith)) ∙ found))
  | inr e ↦ e
]

-- Rows without a fault are a table where each target has a direction.
pub table-test : (unit : AngleUnit) (targets : List (List ℕ))
    (rules : RowRules (List (List ℕ)) RowKind) (rows : List (List (List ℕ)))
    (stated : List (Option ℤ)) → AreFaultless rules rows → stated ≡ stated_by unit rows targets
    → list_all is_some stated ≡ is_table unit targets rules rows
unfolding is_table
table-test unit targets rules rows stated clean is =
    rw (is, faultless-test rules rows [] rows refl clean)
    (list_all-map is_some (direction_in unit rows) targets)

-- Rows with a fault are none.
pub no-table : (unit : AngleUnit) (targets : List (List ℕ))
    (rules : RowRules (List (List ℕ)) RowKind)
    → ((rows : List (List (List ℕ))) → rules.of_end rows ≡ None)
    → (rows : List (List (List ℕ))) (fault : TableFault) → IsRowFaultOrMemory rules rows fault
    → (fault ≡ Memory → ⊥) → false ≡ is_table unit targets rules rows
unfolding is_table
no-table unit targets rules ends rows fault (inl found) known =
    rw (fault-test rules ends rows found.place found.kind found.first.here) refl
no-table unit targets rules ends rows fault (inr memory) known = absurd (known memory)
