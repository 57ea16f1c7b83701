-- The rows that were read: none of them has a fault, and what the next row or the end says of the
-- whole.
use Rattle.std.specs.Prelude.{◌&&◌}
use Rattle.std.specs.Str.{bytes_eq}
use Rattle.std.proofs.Common.{◌≡◌, ◌∙◌, ℕ, ◌≤◌, ◌<◌, ◌+◌, map, Bool, true, false, List, [], ◌∷◌}
use Rattle.std.proofs.Common.{◌++◌, length, Option, Some, None, refl, ap, sym, arith, inl}
use Rattle.std.proofs.Common.{inr, ◌==◌, ℤ, get_or, take, drop}
use lib.ListN.{replicate}
use Rattle.std.proofs.lemmas.Bool.{and_parts, cases_Bool, cases_lt, eq-eqb, ne_eqb}
use Rattle.std.proofs.lemmas.Bool.{not-true, or_parts}
use Rattle.std.proofs.lemmas.Slice.Eq.{bytes_eq-Decides}
use Rattle.std.proofs.lemmas.List.{take_at}
use Rattle.csv.specs.Reading.{is_bom, records, strip_bom}
use Rattle.direction_table.specs.ByteSteps.{records_left}
use Rattle.sheet_format.specs.RowFaults.{IsFirstFault, RowRules}
use Rattle.sheet_format.proofs.RowFaultLaws.{fault-row, past-end}
use Rattle.direction_table.specs.Faults.{HasNoFault, are_titles, is_first, stating_fault}
use Rattle.direction_table.specs.Faults.{table_row_fault, table_rules}
use Rattle.direction_table.specs.Directions.{is_direction}
use Rattle.direction_table.specs.FieldForms.{has_name, tidy}
use Rattle.direction_table.specs.Rows.{beside_name, name_of}
use Rattle.direction_table.specs.Separators.{byte_of, config_of, kept, rows_of}
use Rattle.direction_table.specs.Separators.{separator_of}
use Rattle.direction_table.specs.Tables.{stated_by}
use Rattle.direction_table.specs.UsualLimits.{finer, row_step}
use Rattle.direction_table.proofs.RowsInTurn.{HasReadBy, begin, clean-all, here, more}
use Rattle.direction_table.proofs.UsualLimits.{finer-none}
use Rattle.direction_table.specs.declared.fault.RowKind.{RowKind}
use Rattle.direction_table.specs.declared.records.Records.{Records}
use Rattle.direction_table.specs.declared.separator.Separator.{Separator}
use Rattle.direction_table.specs.declared.unit.AngleUnit.{AngleUnit}

-- The rows that are left of a text, tidied, by the records that are left of it.
abbrev pub rows_left : Separator → List (List ℕ) → List (List (List ℕ)) → List (List (List ℕ))
rows_left s targets left = map (tidy targets) (map (kept s) left)

-- Before the first record is read all rows of the table are left.
pub all-left : (s : Separator) (targets : List (List ℕ)) (left : Records) (bytes : List ℕ)
    → s ≡ separator_of targets bytes → left.separator ≡ byte_of s
    → left.unread.now ≡ strip_bom bytes
    → rows_of targets bytes ≡ rows_left s targets (records_left left)
unfolding rows_of
all-left s targets left bytes e own is =
    let begun : records_left left ≡ records (config_of s) (strip_bom bytes) = rw (own, is) refl in
    rw (← e, begun) refl

-- What one of two names is not, the other is not.
pub apart : (a b : List ℕ) → bytes_eq a b ≡ false → bytes_eq b a ≡ false
apart a b e = grind (arith, bytes_eq-Decides)

module _ (unit : AngleUnit) where
  -- A row that names none of these targets states nothing of them.
  pub states-none : (row : List (List ℕ)) (rows : List (List (List ℕ))) (names : List (List ℕ))
      → has_name names (name_of row) ≡ false
      → stated_by unit (row ∷ rows) names ≡ stated_by unit rows names
  states-none row rows [] e = refl
  states-none row rows (name ∷ names) e =
      let (other, others) = or_parts _ _ e in
      rw (apart name (name_of row) other, states-none row rows names others) refl

  module _ (targets : List (List ℕ)) where
    abbrev rules : RowRules (List (List ℕ)) RowKind
    rules = table_rules unit targets

    -- A row of titles has no fault, states nothing, and tells no step.
    record IsPassedOver (before : List (List (List ℕ))) (row : List (List ℕ)) : Type 0 where
      faultless : table_row_fault unit targets before row ≡ None
      states : stated_by unit (before ++ (row ∷ [])) targets ≡ stated_by unit before targets
      untold : row_step unit row ≡ 0

    titles-pass : (before : List (List (List ℕ))) (row : List (List ℕ))
        → (is_first before && are_titles unit targets row) ≡ true → IsPassedOver before row
    unfolding table_row_fault
    titles-pass (first ∷ before) row e = cc e
    titles-pass [] row e =
        let (wide, both) = and_parts _ _ e in
        let (other, none) = and_parts _ _ both in
        record {
          faultless = rw e refl;
          states = states-none row [] targets (not-true _ other);
          untold = rw (not-true (is_direction unit (beside_name row)) none) refl;
        }

    -- Any other row has the fault of what it states.
    states-fault : (before : List (List (List ℕ))) (row : List (List ℕ))
        → (is_first before && are_titles unit targets row) ≡ false
        → table_row_fault unit targets before row ≡ stating_fault unit targets before row
    unfolding table_row_fault
    states-fault before row e = rw e refl

    module _ (all : List (List (List ℕ))) where
      -- So where no row has one, none has.
      pub no-fault : ((place : ℕ) → place < length all
          → table_row_fault unit targets (take place all) (get_or all place []) ≡ None)
          → HasNoFault unit targets all
      no-fault none place = elim (cases_lt place (length all)) [
        | inl inside ↦ fault-row rules all place [] inside ∙ none place inside
        | inr past ↦ past-end rules all place past
      ]

      -- So many rows were read, none of which has a fault, and these are left.
      abbrev pub HasRead : List (Option ℤ) → ℕ → ℕ → List (List (List ℕ)) → Type 0
      HasRead stated step number rest =
          HasReadBy unit targets (table_row_fault unit targets) all stated step number rest

      -- Before the first row none was read, and all are left.
      pub read-begin : (stated : List (Option ℤ)) → stated ≡ stated_by unit [] targets
          → HasRead stated 0 0 all
      read-begin stated none = begin unit targets (table_row_fault unit targets) all stated none

      module _ (stated : List (Option ℤ)) (step number : ℕ) (row : List (List ℕ))
          (rest : List (List (List ℕ))) (read : HasRead stated step number (row ∷ rest)) where
        -- Whether the next row is one of titles, by its number.
        by-number : (titled : Bool) → ((number + 1 == 1) && are_titles unit targets row) ≡ titled
            → (is_first read.before && are_titles unit targets row) ≡ titled
        by-number titled e =
            ap (λ b. b && are_titles unit targets row) (sym (first read.before read.count)) ∙ e
          where
            first : (before : List (List (List ℕ))) → number ≡ length before
                → (number + 1 == 1) ≡ is_first before
            first [] n = eq-eqb _ _ (omega (arith, n))
            first (a ∷ rows) n = ne_eqb _ _ (λ same. absurd (omega (arith, n, same)))

        -- A row of titles is read, and those after it are left.
        pub read-titles : ((number + 1 == 1) && are_titles unit targets row) ≡ true
            → HasRead stated step (number + 1) rest
        read-titles titled =
            let pass = titles-pass read.before row (by-number true titled) in
            more unit targets (table_row_fault unit targets) all stated step number row rest read
            stated step pass.faultless (read.each ∙ sym pass.states)
            (rw pass.untold (sym (finer-none step)))

        pub read-more : (next : List (Option ℤ)) (least own : ℕ)
            → ((number + 1 == 1) && are_titles unit targets row) ≡ false
            → ((before : List (List (List ℕ))) → stated ≡ stated_by unit before targets
            → stating_fault unit targets before row ≡ None)
            → ((before : List (List (List ℕ))) → stated ≡ stated_by unit before targets
            → next ≡ stated_by unit (before ++ (row ∷ [])) targets)
            → own ≡ row_step unit row → least ≡ finer step own
            → HasRead next least (number + 1) rest
        read-more next least own other none states tells is =
            more unit targets (table_row_fault unit targets) all stated step number row rest read
            next least
            (states-fault read.before row (by-number false other) ∙ none read.before read.each)
            (states read.before read.each) (is ∙ ap (finer step) tells)

        -- The fault of the next row is the first of the table, at the number of the rows before it.
        pub read-fault : (k : RowKind) → ((number + 1 == 1) && are_titles unit targets row) ≡ false
            → ((before : List (List (List ℕ))) → stated ≡ stated_by unit before targets
            → stating_fault unit targets before row ≡ Some k)
            → IsFirstFault rules all number k
        read-fault k other found =
            here unit targets (table_row_fault unit targets) all stated step number row rest read k
            (states-fault read.before row (by-number false other) ∙ found read.before read.each)

      -- Where no row is left, none has a fault.
      pub read-clean : (stated : List (Option ℤ)) (step number : ℕ)
          → HasRead stated step number [] → HasNoFault unit targets all
      read-clean stated step number read =
          clean-all unit targets (table_row_fault unit targets) all stated step number read

-- Without a byte order mark a text is no longer.
pub strip-short : (bytes : List ℕ) → length (strip_bom bytes) ≤ length bytes
unfolding strip_bom
strip-short (a ∷ b ∷ c ∷ rest) = elim (cases_Bool (is_bom a b c)) [
  | inl e ↦ rw e (omega arith)
  | inr e ↦ rw e (omega arith)
]
strip-short bytes = omega arith

-- What a slice of a vector became, as the vector has it.
pub written-back : {A : Type 0} (xs new : List A) (n : ℕ) → n ≡ length xs → length new ≡ length xs
    → take n (new ++ drop (length new) xs) ≡ new
written-back xs new n size same = take_at new _ n (same ∙ sym size)

-- Before any row nothing is stated.
pub none-stated : (unit : AngleUnit) (targets : List (List ℕ))
    → replicate (length targets) None ≡ stated_by unit [] targets
none-stated unit [] = refl
none-stated unit (target ∷ targets) = rw (none-stated unit targets) refl
