-- A table of two columns is read as that, and so is a plain table.
use Rattle.std.proofs.Common.{◌≡◌, ◌∙◌, ℕ, ◌≤◌, ◌<◌, Bool, true, false, List, [], ◌∷◌}
use Rattle.std.proofs.Common.{length, map, get_or, take, All, ℤ, Some, None, ap, sym, subst, arith}
use Rattle.std.proofs.Common.{refl, inl, inr}
use Rattle.std.specs.List.{list_all}
use Rattle.std.specs.Option.{is_some}
use Rattle.std.specs.Prelude.{if◌then◌else◌}
use Rattle.std.proofs.lemmas.Bool.{and_right, cases_Bool}
use Rattle.std.proofs.lemmas.List.{get_or-map, length-map, map-id, same_lists}
use Rattle.std.proofs.lemmas.List.Elements.{All-head}
use Rattle.adjust_kernel.specs.Stations.{AreTargets}
use Rattle.sheet_format.specs.Rows.{records_of}
use Rattle.sheet_format.specs.Faults.{is_name}
use Rattle.sheet_format.proofs.RowFaultLaws.{fault-row}
use Rattle.direction_table.specs.Faults.{HasNoFault, is_first, stating_fault}
use Rattle.direction_table.specs.Faults.{table_row_fault, table_rules}
use Rattle.direction_table.specs.FieldForms.{has_name, tidy, without_blanks}
use Rattle.direction_table.specs.FoundColumns.{is_table}
use Rattle.direction_table.specs.PlainTables.{IsPlainRow, IsPlainTable}
use Rattle.direction_table.specs.Rows.{direction_in, name_of}
use Rattle.direction_table.specs.Separators.{begins_with_target, first_of, rows_by}
use Rattle.direction_table.specs.Separators.{rows_of}
use Rattle.direction_table.specs.Separators.{separator_of}
use Rattle.direction_table.specs.TableRows.{unstated, way_of}
use Rattle.direction_table.specs.Tables.{IsTableText, stated_by}
use Rattle.direction_table.specs.declared.reading.TheConstants.{LONGEST_TABLE}
use Rattle.direction_table.specs.declared.separator.Separator.{Separator}
use Rattle.direction_table.specs.declared.separator.Separator.TheVariants.{Comma}
use Rattle.direction_table.specs.declared.unit.AngleUnit.{AngleUnit}
use Rattle.direction_table.specs.declared.unit.AngleUnit.TheVariants.{Gon}
use Rattle.direction_table.specs.declared.way.Way.TheVariants.{TwoColumns}
use Rattle.direction_table.proofs.FaultTests.{faultless-test}
use Rattle.direction_table.proofs.PlainDirections.{no-blanks, plain-form, plain-range}

-- Where each target's direction is stated, the test of that says so.
pub stated-test : (unit : AngleUnit) (rows : List (List (List ℕ))) (targets : List (List ℕ))
    (directions : List ℤ) → stated_by unit rows targets ≡ map Some directions
    → list_all (λ target. is_some (direction_in unit rows target)) targets ≡ true
stated-test unit rows [] directions e = refl
stated-test unit rows (target ∷ targets) [] e = cc e
stated-test unit rows (target ∷ targets) (direction ∷ directions) e =
    let first : direction_in unit rows target ≡ Some direction = cc e in
    let others : stated_by unit rows targets ≡ map Some directions = cc e in
    rw (first, stated-test unit rows targets directions others) refl

-- Rows that are a table as they stand are read as two columns.
two-way : (unit : AngleUnit) (targets : List (List ℕ)) (bytes : List ℕ) (directions : List ℤ)
    → HasNoFault unit targets (rows_of targets bytes)
    → stated_by unit (rows_of targets bytes) targets ≡ map Some directions
    → way_of (unstated unit) targets bytes ≡ TwoColumns
unfolding way_of is_table
two-way unit targets bytes directions clean stated =
    let rows = rows_of targets bytes in
    rw (
      faultless-test (table_rules unit targets) rows [] rows refl clean,
      stated-test unit rows targets directions stated,
    ) refl

-- A table of two columns is read as that, and as nothing else.
pub two-columns-stand : (unit : AngleUnit) (targets : List (List ℕ)) (bytes : List ℕ)
    (directions : List ℤ) → length bytes ≤ LONGEST_TABLE
    → HasNoFault unit targets (rows_of targets bytes)
    → stated_by unit (rows_of targets bytes) targets ≡ map Some directions
    → IsTableText (unstated unit) targets bytes directions
two-columns-stand unit targets bytes directions short clean stated =
    let way = two-way unit targets bytes directions clean stated in
    record {
      short = short;
      one_way = rw way tt;
      faultless = rw way clean;
      stated = rw way stated;
    }

-- A plain row without a fault names a target.
known : (targets : List (List ℕ)) (before : List (List (List ℕ))) (row : List (List ℕ))
    → IsPlainRow row → table_row_fault Gon targets before row ≡ None
    → has_name targets (name_of row) ≡ true
unfolding table_row_fault stating_fault
known targets before (a ∷ b ∷ []) p e = elim (cases_Bool (has_name targets a)) [
  | inl h ↦ h
  | inr h ↦ absurd (elim (cases_Bool (is_name a)) [
    | inl n ↦
        let f = rw (
          h,
          n,
          plain-form b p.direction p.plain,
          plain-range b p.direction p.plain,
          and_right (is_first before) false refl,
        ) at e in cc
    | inr n ↦
        let f = rw (
          h,
          n,
          plain-form b p.direction p.plain,
          and_right (is_first before) false refl,
        ) at e in cc
  ])
]
known targets before row p e = absurd (let two = p.two in omega (arith, two))

-- So each row of a plain table does.
each-known : (targets : List (List ℕ)) (rows : List (List (List ℕ))) → All IsPlainRow rows
    → HasNoFault Gon targets rows → All (λ row. has_name targets (name_of row) ≡ true) rows
each-known targets rows plain clean k d below =
    known targets (take k rows) (get_or rows k d) (plain k d below)
    (sym (fault-row (table_rules Gon targets) rows k d below) ∙ clean k)

-- Such a row has nothing loose.
tidy-row : (targets : List (List ℕ)) (row : List (List ℕ)) → IsPlainRow row
    → has_name targets (name_of row) ≡ true → tidy targets row ≡ row
tidy-row targets [] p e = refl
tidy-row targets (a ∷ b ∷ []) p e = rw (e, no-blanks b p.direction p.plain) refl
tidy-row targets row p e = absurd (let two = p.two in omega (arith, two))

tidy-rows : (targets : List (List ℕ)) (rows : List (List (List ℕ))) → All IsPlainRow rows
    → All (λ row. has_name targets (name_of row) ≡ true) rows → map (tidy targets) rows ≡ rows
tidy-rows targets rows p e = same_lists _ rows (length-map rows (tidy targets)) (λ k d below.
    let inside : k < length rows = omega (arith, below, length-map rows (tidy targets)) in
    get_or-map (tidy targets) rows k d d inside
    ∙ tidy-row targets (get_or rows k d) (p k d inside) (e k d inside))

-- A row that names a target begins with it.
begins : (targets : List (List ℕ)) (row : List (List ℕ)) → IsPlainRow row
    → has_name targets (name_of row) ≡ true → begins_with_target targets row ≡ true
begins targets [] p e = absurd (let two = p.two in omega (arith, two))
begins targets (a ∷ others) p e =
    ap (has_name targets) (ap (λ (b : Bool). if b then a else without_blanks a) e) ∙ e

-- Where the rows that commas separate begin with a target, commas separate.
by-commas : (targets : List (List ℕ)) (bytes : List ℕ)
    → begins_with_target targets (first_of (records_of bytes)) ≡ true
    → separator_of targets bytes ≡ Comma
unfolding separator_of
by-commas targets bytes e =
    let same : begins_with_target targets (first_of (rows_by Comma bytes)) ≡ true =
    rw (map-id (records_of bytes)) e in
    rw same refl

-- Some row is there where a target's direction is stated.
no-row : (targets : List (List ℕ)) (directions : List ℤ) → 1 ≤ length targets
    → stated_by Gon [] targets ≡ map Some directions → ⊥
no-row (target ∷ targets) (d ∷ ds) some e = cc e
no-row [] directions some e = omega (arith, some)
no-row targets [] some e = cc e

begins-rows : (targets : List (List ℕ)) (directions : List ℤ) (rows : List (List (List ℕ)))
    → 1 ≤ length targets → stated_by Gon rows targets ≡ map Some directions → All IsPlainRow rows
    → All (λ row. has_name targets (name_of row) ≡ true) rows
    → begins_with_target targets (first_of rows) ≡ true
begins-rows targets directions [] some stated p e =
    absurd (no-row targets directions some stated)
begins-rows targets directions (row ∷ rows) some stated p e =
    begins targets row (All-head IsPlainRow row rows p)
    (All-head (λ r. has_name targets (name_of r) ≡ true) row rows e)

-- The rows of a plain table are its records.
same-rows : (targets : List (List ℕ)) (bytes : List ℕ) (directions : List ℤ) → AreTargets targets
    → IsPlainTable targets bytes directions → rows_of targets bytes ≡ records_of bytes
unfolding rows_of
same-rows targets bytes directions ok t =
    let names = each-known targets (records_of bytes) t.plain t.faultless in
    let comma = by-commas targets bytes
    (begins-rows targets directions (records_of bytes) ok.some t.stated t.plain names) in
    ap (λ (s : Separator). map (tidy targets) (rows_by s bytes)) comma
    ∙ ap (map (tidy targets)) (map-id (records_of bytes))
    ∙ tidy-rows targets (records_of bytes) t.plain names

-- A plain table is a table of the same targets and directions.
pub plain-stands : (targets : List (List ℕ)) (bytes : List ℕ) (directions : List ℤ)
    → AreTargets targets → IsPlainTable targets bytes directions
    → IsTableText (unstated Gon) targets bytes directions
plain-stands targets bytes directions ok t =
    let same = sym (same-rows targets bytes directions ok t) in
    two-columns-stand Gon targets bytes directions t.short
    (subst (HasNoFault Gon targets) same t.faultless)
    (ap (λ (rows : List (List (List ℕ))). stated_by Gon rows targets) (sym same) ∙ t.stated)
