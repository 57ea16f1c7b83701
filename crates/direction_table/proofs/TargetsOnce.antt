-- In a table that is read by a pair of its columns each target is named once.
use Rattle.std.proofs.Common.{◌≡◌, ◌∙◌, ℕ, ◌≤◌, ◌<◌, ◌+◌, ◌-◌, Bool, true, false, List, [], ◌∷◌}
use Rattle.std.proofs.Common.{◌++◌, length, map, get_or, take, drop, All, Option, Some, None, ap}
use Rattle.std.proofs.Common.{sym, ℤ, arith, refl, inl, inr, append_assoc, length-drop, reverse}
use Rattle.std.specs.List.{filter, suffix_len}
use Rattle.std.specs.Option.{is_some, option_or}
use Rattle.std.specs.Prelude.{◌||◌, not, nat_le}
use Rattle.std.specs.Str.{bytes_eq}
use Rattle.std.proofs.Math.Seq.{drop-append_seam, take-append_seam}
use Rattle.std.proofs.lemmas.Bool.{cases_Bool, not-true, or_left, or_right}
use Rattle.std.proofs.lemmas.List.{append-nil, get_or-drop, get_or-reverse, map-append}
use Rattle.std.proofs.lemmas.List.{take-append-drop}
use Rattle.std.proofs.lemmas.List.Elements.{All-head, All-tail, filter-append}
use Rattle.std.proofs.lemmas.List.Folds.{list_any-append, list_any_at}
use Rattle.std.proofs.lemmas.List.Sums.{AllPass-from_list_all, list_all-from_AllPass}
use Rattle.std.proofs.lemmas.List.Sums.{prefix_len_passes}
use Rattle.std.proofs.lemmas.Slice.Eq.{bytes_eq-Decides}
use Rattle.csv.specs.Records.{field_at}
use Rattle.adjust_kernel.specs.Stations.{AreTargets}
use Rattle.sheet_format.specs.RowFaults.{RowRules, fault_at, fault_between}
use Rattle.direction_table.specs.Cells.{field_in, names_in}
use Rattle.direction_table.specs.Faults.{column_row_fault, column_rules, entry_fault, stating_fault}
use Rattle.direction_table.specs.FieldForms.{has_name, named}
use Rattle.direction_table.specs.FoundColumns.{picked, rows_by_pair, silent_before, taken_by}
use Rattle.direction_table.specs.FoundColumns.{up_to_last}
use Rattle.direction_table.specs.NumberColumns.{is_naming, times_named}
use Rattle.direction_table.specs.Rows.{TwoColumns, direction_in, name_of}
use Rattle.direction_table.specs.Separators.{rows_by}
use Rattle.direction_table.specs.TableRows.{way_of}
use Rattle.direction_table.specs.Tables.{IsTableText, stated_by}
use Rattle.direction_table.specs.declared.fault.RowKind.{RowKind}
use Rattle.direction_table.specs.declared.fault.RowKind.TheVariants.{Twice}
use Rattle.direction_table.specs.declared.form.ColumnPair.{ColumnPair}
use Rattle.direction_table.specs.declared.form.TableForm.{TableForm}
use Rattle.direction_table.specs.declared.separator.Separator.{Separator}
use Rattle.direction_table.specs.declared.taken.Taken.{Taken}
use Rattle.direction_table.specs.declared.unit.AngleUnit.{AngleUnit}
use Rattle.direction_table.specs.declared.way.Way.TheVariants.{ByColumns}
use Rattle.direction_table.proofs.NamedTargets.{is_named}
use Rattle.direction_table.proofs.PlainRows.{stated-test}

-- The rows at the end that are counted as so are so.
after-last : (p : List (List ℕ) → Bool) (rows : List (List (List ℕ))) (k : ℕ) (d : List (List ℕ))
    → length rows - suffix_len p rows ≤ k → k < length rows → p (get_or rows k d) ≡ true
after-last p rows k d late inside =
    let back : ℕ = length rows - 1 - k in
    let there : length rows - 1 - back ≡ k = omega (arith, inside) in
    let passes = prefix_len_passes p (reverse rows) back d (omega (arith, late, inside)) in
    ap p (ap (λ n. get_or rows n d) (sym there)
    ∙ sym (get_or-reverse rows back d (omega (arith, inside))))
    ∙ passes

-- None of some rows passes a test.
none-pass : (p : List (List ℕ) → Bool) (rows : List (List (List ℕ)))
    → All (λ row. p row ≡ false) rows → filter p rows ≡ []
none-pass p [] none = refl
none-pass p (row ∷ rows) none =
    rw (
      All-head (λ row. p row ≡ false) row rows none,
      none-pass p rows (All-tail (λ row. p row ≡ false) row rows none),
    ) refl

-- A row that states something and has no fault has a name that no row before it has.
no-twin : (unit : AngleUnit) (targets : List (List ℕ)) (before : List (List (List ℕ)))
    (row : List (List ℕ)) → stating_fault unit targets before row ≡ None
    → has_name (map name_of before) (name_of row) ≡ false
unfolding stating_fault
no-twin unit targets before (a ∷ b ∷ []) clean =
    elim (cases_Bool (has_name (map name_of before) a)) [
      | inl twice ↦
          let c : TwoColumns = record { name = a; direction = b } in
          absurd (twin (entry_fault unit targets c) (rw twice at clean))
      | inr once ↦ once
    ]
  where
    twin : (o : Option RowKind) → option_or o (Some Twice) ≡ None → ⊥
    twin None e = cc e
    twin (Some kind) e = cc e
no-twin unit targets before row clean = absurd (cc clean)

module _ (unit : AngleUnit) (targets : List (List ℕ)) (target : List ℕ)
    (known : has_name targets target ≡ true) where
  abbrev rules : RowRules (List (List ℕ)) RowKind
  rules = column_rules unit targets

  -- A row has the target's name.
  abbrev is_its : List (List ℕ) → Bool
  is_its row = bytes_eq (name_of row) target

  its-name : (row : List (List ℕ)) → is_its row ≡ true → name_of row ≡ target
  its-name row e = (bytes_eq-Decides (name_of row) target).0 e

  -- A row of the target without a fault is the first of it.
  first-of-it : (before : List (List (List ℕ))) (row : List (List ℕ)) → is_its row ≡ true
      → column_row_fault unit targets before row ≡ None
      → has_name (map name_of before) target ≡ false
  unfolding column_row_fault
  first-of-it before row e clean =
      let same = its-name row e in
      let named : has_name targets (name_of row) ≡ true = ap (has_name targets) same ∙ known in
      let states : stating_fault unit targets before row ≡ None = rw named at clean in
      ap (has_name (map name_of before)) (sym same) ∙ no-twin unit targets before row states

  -- Rows have the name, or one more has it.
  with-one-more : (before : List (List (List ℕ))) (row : List (List ℕ))
      → has_name (map name_of (before ++ (row ∷ []))) target
      ≡ (has_name (map name_of before) target || has_name (name_of row ∷ []) target)
  with-one-more before row =
      ap (λ names. has_name names target) (map-append name_of before (row ∷ []))
      ∙ list_any-append (is_named target) (map name_of before) (name_of row ∷ [])

  module _ (all : List (List (List ℕ))) (clean : (place : ℕ) → fault_at rules all place ≡ None)
    where
      clean-row : (before : List (List (List ℕ))) (row : List (List ℕ))
          (rows : List (List (List ℕ))) → all ≡ before ++ (row ∷ rows)
          → column_row_fault unit targets before row ≡ None
      unfolding fault_between
      clean-row before row rows whole =
          let here = clean (length before) in
          rw (
            whole,
            take-append_seam before (row ∷ rows),
            drop-append_seam before (row ∷ rows),
          ) at here

      next : (before : List (List (List ℕ))) (row : List (List ℕ)) (rows : List (List (List ℕ)))
          → all ≡ before ++ (row ∷ rows) → all ≡ (before ++ (row ∷ [])) ++ rows
      next before row rows whole = whole ∙ sym (append_assoc before (row ∷ []) rows)

      -- After a row of the target there is no other.
      none-later : (before rows : List (List (List ℕ))) → all ≡ before ++ rows
          → has_name (map name_of before) target ≡ true → length (filter is_its rows) ≡ 0
      none-later before [] whole seen = refl
      none-later before (row ∷ rows) whole seen = elim (cases_Bool (is_its row)) [
        | inl e ↦
            let new = first-of-it before row e (clean-row before row rows whole) in
            let both : true ≡ false = sym seen ∙ new in
            absurd (cc both)
        | inr e ↦
            let more = with-one-more before row ∙ or_left _ _ seen in
            rw (e, none-later (before ++ (row ∷ [])) rows (next before row rows whole) more) refl
      ]

      -- Where one of the rows states its direction, one row is of the target.
      one-row : (before rows : List (List (List ℕ))) → all ≡ before ++ rows
          → is_some (direction_in unit rows target) ≡ true → length (filter is_its rows) ≡ 1
      one-row before [] whole stated = cc stated
      one-row before (row ∷ rows) whole stated = elim (cases_Bool (is_its row)) [
        | inl e ↦
            let seen = with-one-more before row ∙ or_right _ _ (or_left _ _ e) in
            rw (e, none-later (before ++ (row ∷ [])) rows (next before row rows whole) seen) refl
        | inr e ↦
            let later = rw e at stated in
            rw (e, one-row (before ++ (row ∷ [])) rows (next before row rows whole) later) refl
      ]

  module _ (pair : ColumnPair) (some : 1 ≤ length target) where
    abbrev so : List (List ℕ) → Bool
    so = names_in targets pair.names

    -- A row names the target in the column of names.
    abbrev names_it : List (List ℕ) → Bool
    names_it row = bytes_eq (named targets (field_in pair.names row)) target

    -- A row that names no target does not name this one.
    not-it : (row : List (List ℕ)) → so row ≡ false → names_it row ≡ false
    not-it row other = elim (cases_Bool (names_it row)) [
      | inl e ↦
          let same = (bytes_eq-Decides (named targets (field_in pair.names row)) target).0 e in
          let both : true ≡ false = sym known ∙ ap (has_name targets) (sym same) ∙ other in
          absurd (cc both)
      | inr e ↦ e
    ]

    -- Nor does a row without fields.
    empty-name : named targets [] ≡ []
    empty-name = elim (cases_Bool (has_name targets [])) [
      | inl e ↦ rw e refl
      | inr e ↦ rw e refl
    ]

    silent : names_it [] ≡ false
    unfolding field_at
    silent = elim (cases_Bool (names_it [])) [
      | inl e ↦
          let same : [] ≡ target =
          sym empty-name ∙ (bytes_eq-Decides (named targets []) target).0 e in
          absurd (let short = ap length same in omega (arith, some, short))
      | inr e ↦ e
    ]

    -- A picked row has the name that the row has in that column.
    picked-name : (taken : Taken) (row : List (List ℕ))
        → name_of (picked taken unit targets pair row) ≡ named targets (field_in pair.names row)
    picked-name taken row = elim (cases_Bool (nat_le (pair.directions + 1) (length row))) [
      | inl e ↦ rw e refl
      | inr e ↦ rw e refl
    ]

    -- So as many picked rows are of the target as rows name it,
    picked-times : (taken : Taken) (rows : List (List (List ℕ)))
        → length (filter is_its (map (picked taken unit targets pair) rows))
        ≡ length (filter names_it rows)
    picked-times taken [] = refl
    picked-times taken (row ∷ rows) = elim (cases_Bool (names_it row)) [
      | inl e ↦ rw (picked-name taken row, e, picked-times taken rows) refl
      | inr e ↦ rw (picked-name taken row, e, picked-times taken rows) refl
    ]

    -- as many where those before the first row of a target are silent,
    silent-times : (rows : List (List (List ℕ)))
        → length (filter names_it (silent_before so rows)) ≡ length (filter names_it rows)
    silent-times [] = refl
    silent-times (row ∷ rows) = elim (cases_Bool (so row)) [
      | inl e ↦ rw e refl
      | inr e ↦ rw (e, not-it row e, silent, silent-times rows) refl
    ]

    -- and as many up to the last row of a target.
    last-times : (rows : List (List (List ℕ)))
        → length (filter names_it (up_to_last so rows)) ≡ length (filter names_it rows)
    last-times rows =
        let end : ℕ = length rows - suffix_len (λ row. not (so row)) rows in
        let none = none-pass names_it (drop end rows) (λ k d below.
        let inside : end + k < length rows = omega (arith, below, length-drop end rows) in
        rw (get_or-drop end rows k d) (not-it (get_or rows (end + k) d) (not-true _
        (after-last (λ row. not (so row)) rows (end + k) d (omega arith) inside)))) in
        let parts = filter-append names_it (take end rows) (drop end rows) in
        let all : filter names_it (take end rows) ++ [] ≡ filter names_it rows =
        ap (λ others. filter names_it (take end rows) ++ others) (sym none) ∙ sym parts
        ∙ ap (filter names_it) (take-append-drop end rows) in
        ap length (sym (append-nil (filter names_it (take end rows))) ∙ all)

    -- So a table's rows name the target once.
    named-once : (rows : List (List (List ℕ)))
        → ((place : ℕ) → fault_at rules (rows_by_pair unit targets pair rows) place ≡ None)
        → is_some (direction_in unit (rows_by_pair unit targets pair rows) target) ≡ true
        → times_named targets pair.names rows target ≡ 1
    unfolding rows_by_pair
    named-once rows clean stated =
        let last = up_to_last so rows in
        let taken = taken_by unit targets pair rows in
        sym (last-times rows) ∙ sym (silent-times last)
        ∙ sym (picked-times taken (silent_before so last))
        ∙ one-row (map (picked taken unit targets pair) (silent_before so last)) clean []
        (map (picked taken unit targets pair) (silent_before so last)) refl stated

-- Of a table that is read by a pair of its columns each target stands in one row of the column of
-- names.
pub each-once : (form : TableForm) (targets : List (List ℕ)) (bytes : List ℕ)
    (directions : List ℤ) (separator : Separator) (pair : ColumnPair) → AreTargets targets
    → IsTableText form targets bytes directions
    → way_of form targets bytes ≡ ByColumns separator pair
    → is_naming targets (rows_by separator bytes) pair.names ≡ true
each-once form targets bytes directions separator pair ok text way =
    let rows = rows_by separator bytes in
    let faultless = text.faultless in
    let clean : (place : ℕ) → fault_at (column_rules form.unit targets)
    (rows_by_pair form.unit targets pair rows) place ≡ None = rw way at faultless in
    let stated = text.stated in
    let all : stated_by form.unit (rows_by_pair form.unit targets pair rows) targets
    ≡ map Some directions = rw way at stated in
    let each = stated-test form.unit (rows_by_pair form.unit targets pair rows) targets directions
    all in
    list_all-from_AllPass _ targets (λ k d inside.
    let target = get_or targets k d in
    let known = list_any_at (is_named target) targets k d inside
    ((bytes_eq-Decides target target).1 refl) in
    let some = (ok.names k d inside).some in
    let states = AllPass-from_list_all _ targets each k d inside in
    rw (named-once form.unit targets target known pair some rows clean states) refl)
