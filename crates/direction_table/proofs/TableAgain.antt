-- The text of a table of all targets is a table of them and of their directions.
use Rattle.std.proofs.Common.{◌≡◌, ◌≢◌, ◌∙◌, ℕ, suc, ◌+◌, ◌*◌, ◌<◌, true, false, List, []}
use Rattle.std.proofs.Common.{◌∷◌, ◌++◌, map, length, get_or, take, All, AllPairs, Some, None, refl}
use Rattle.std.proofs.Common.{ap, pos, subst, sym, arith, inl, inr}
use Rattle.std.specs.Str.{bytes_eq}
use Rattle.std.proofs.lemmas.Bool.{and_right, cases_Bool, false_from_ne_true, ne_eqb}
use Rattle.std.proofs.lemmas.List.{get_or-map, get_or-take, length-map, length-take, take-map}
use Rattle.std.proofs.lemmas.List.Elements.{All-head, All-map, All-tail}
use Rattle.std.proofs.lemmas.List.Folds.{list_any_at, list_any_none}
use Rattle.std.proofs.lemmas.Simd.{map-map}
use Rattle.std.proofs.lemmas.Slice.Eq.{bytes_eq-Decides}
use Rattle.csv.specs.Reading.{strip_bom}
use Rattle.csv.specs.Writing.{default_writer, field_text, needs_quotes}
use Rattle.adjust_kernel.specs.Names.{IsName, IsPrintable}
use Rattle.adjust_kernel.specs.Stations.{AreTargets}
use Rattle.sheet_format.specs.Rows.{records_of}
use Rattle.sheet_format.proofs.NameTests.{name-test}
use Rattle.sheet_format.proofs.TextAgain.{back-entries, records-written}
use Rattle.direction_table.specs.Faults.{HasNoFault, is_first, table_row_fault, stating_fault}
use Rattle.direction_table.specs.FieldForms.{has_name}
use Rattle.direction_table.specs.PlainTables.{IsPlainRow, IsPlainTable}
use Rattle.direction_table.specs.Rows.{direction_in, name_of}
use Rattle.direction_table.specs.TableRows.{unstated}
use Rattle.direction_table.specs.Tables.{IsTableText, stated_by}
use Rattle.direction_table.specs.Texts.{AreDecimals, IsWhole}
use Rattle.direction_table.specs.TableTexts.{directions_of, names_of, row_of, table_text}
use Rattle.direction_table.specs.declared.table.TargetDirection.{TargetDirection}
use Rattle.direction_table.proofs.NamedTargets.{is_named}
use Rattle.direction_table.proofs.RowsRead.{no-fault, states-none}
use Rattle.direction_table.proofs.TableLengths.{IsWritten, table-short}
use Rattle.direction_table.proofs.PlainRows.{plain-stands}
use Rattle.direction_table.proofs.WrittenDirections.{text-form, text-plain, text-range, text-value}
use Rattle.direction_table.specs.declared.unit.AngleUnit.TheVariants.{Gon}
use Rattle.row_forms.specs.declared.form.RowForm.TheVariants.{Commas}

-- A text that begins with a name, in quotes or not, has no byte order mark.
unmarked : (a : ℕ) (text : List ℕ) → a < 128 → strip_bom (a ∷ text) ≡ a ∷ text
unfolding strip_bom
unmarked a (b ∷ c ∷ rest) low = rw (ne_eqb a 239 (λ same. absurd (omega (arith, low, same)))) refl
unmarked a text low = refl

no-mark-before : (name field end others : List ℕ) → IsName name
    → strip_bom (((field_text default_writer name ++ field) ++ end) ++ others)
    ≡ ((field_text default_writer name ++ field) ++ end) ++ others
no-mark-before [] field end others named = absurd (omega (arith, named.some))
no-mark-before (c ∷ name) field end others named =
    elim (cases_Bool (needs_quotes default_writer (c ∷ name))) [
      | inl e ↦ rw e (unmarked 34 _ (omega arith))
      | inr e ↦
          let printable = All-head IsPrintable c name named.printable in
          rw e (unmarked c _ (omega (arith, printable.1)))
    ]

no-mark : (count : ℕ) (stated : List TargetDirection) → All (IsWritten count) stated
    → strip_bom (table_text Commas count stated) ≡ table_text Commas count stated
unfolding strip_bom
no-mark count [] ok = refl
no-mark count (row ∷ rest) ok = no-mark-before row.name _ _ _
    (All-head (IsWritten count) row rest ok).name

-- So its records are the rows that were written.
rows-again : (count : ℕ) (stated : List TargetDirection) → All (IsWritten count) stated
    → records_of (table_text Commas count stated) ≡ map (row_of Commas count) stated
rows-again count stated ok =
    rw (no-mark count stated ok) (records-written (length (table_text Commas count stated) + 1)
    (map (row_of Commas count) stated) (omega arith)
    ∙ back-entries (row_of Commas count) (λ row. refl) stated)

-- None of others has a name that none of them is.
not-found : (names : List (List ℕ)) (name : List ℕ) → All (λ other. other ≢ name) names
    → has_name names name ≡ false
not-found names name others =
    list_any_none (is_named name) names (λ k d below. false_from_ne_true _ (λ same.
    others k d below ((bytes_eq-Decides (get_or names k d) name).0 same)))

-- A row of a target, which no row before it names, has no fault.
clean-row : (targets : List (List ℕ)) (before : List (List (List ℕ))) (count : ℕ)
    (row : TargetDirection) → AreDecimals count → IsWritten count row
    → has_name targets row.name ≡ true → has_name (map name_of before) row.name ≡ false
    → table_row_fault Gon targets before (row_of Commas count row) ≡ None
unfolding table_row_fault stating_fault
clean-row targets before count row few ok known new =
    rw (
      name-test row.name ok.name,
      text-form count row.direction few ok.exact,
      text-range count row.direction few ok.exact,
      known,
      new,
      and_right (is_first before) false refl,
    ) refl

-- The rows of all targets have no fault.
clean-rows : (count : ℕ) (stated : List TargetDirection) → AreTargets (names_of stated)
    → AreDecimals count → All (IsWritten count) stated
    → HasNoFault Gon (names_of stated) (map (row_of Commas count) stated)
clean-rows count stated ok few each = no-fault Gon names rows at
  where
    names : List (List ℕ)
    names = names_of stated

    rows : List (List (List ℕ))
    rows = map (row_of Commas count) stated

    at : (place : ℕ) → place < length rows
        → table_row_fault Gon names (take place rows) (get_or rows place []) ≡ None
    at place below =
        let inside : place < length stated =
        omega (arith, below, length-map stated (row_of Commas count)) in
        let blank : TargetDirection = record { name = []; direction = 0 } in
        let row = get_or stated place blank in
        let is : (d : List ℕ) → get_or names place d ≡ row.name =
        λ d. get_or-map (λ (r : TargetDirection). r.name) stated place blank d inside in
        let among : place < length names =
        omega (arith, inside, length-map stated (λ (r : TargetDirection). r.name)) in
        rw (get_or-map (row_of Commas count) stated place blank [] inside)
        (clean-row names (take place rows) count row few (each place blank inside)
        (list_any_at (is_named row.name) names place [] among
        ((bytes_eq-Decides (get_or names place []) row.name).1 (is [])))
        (rw (← take-map name_of place rows, map-map name_of (row_of Commas count) stated)
        (not-found (take place names) row.name (λ k d early same.
        let before : k < place = omega (arith, early, length-take place names) in
        ok.different k place d before among
        (sym (get_or-take place names k d before) ∙ same ∙ sym (is d))))))

-- The rows of targets state their directions.
stated-again : (count : ℕ) (stated : List TargetDirection) → AreDecimals count
    → AllPairs (λ a b. a ≢ b) (names_of stated) → All (IsWritten count) stated
    → map (direction_in Gon (map (row_of Commas count) stated)) (names_of stated)
    ≡ map Some (directions_of stated)
stated-again count [] few different written = refl
stated-again count (row ∷ rest) few different written =
    let own : bytes_eq row.name row.name ≡ true = (bytes_eq-Decides row.name row.name).1 refl in
    let value = text-value count row.direction few
    (All-head (IsWritten count) row rest written).exact in
    let others = states-none Gon (row_of Commas count row) (map (row_of Commas count) rest) (names_of rest)
    (not-found (names_of rest) row.name (λ k d below same.
    different 0 (suc k) d (omega arith) (omega (arith, below)) (sym same))) in
    let later = stated-again count rest few (λ i j d order inside. different (suc i) (suc j) d
    (omega (arith, order)) (omega (arith, inside)))
    (All-tail (IsWritten count) row rest written) in
    rw (own, value, others, later) refl

-- What is asked of each row.
written : (count : ℕ) (stated : List TargetDirection) → All IsName (names_of stated)
    → All (λ row. IsWhole count row.direction) stated → All (IsWritten count) stated
written count stated names exact k d below = record {
  name = rw (get_or-map (λ (row : TargetDirection). row.name) stated k d d.name below) at
      (names k d.name (omega (arith, below, length-map stated (λ (r : TargetDirection). r.name))));
  exact = exact k d below;
}

-- The rows are plain.
each-plain : (count : ℕ) (stated : List TargetDirection) → AreDecimals count
    → All (IsWritten count) stated → All IsPlainRow (map (row_of Commas count) stated)
each-plain count stated few ok = All-map IsPlainRow (row_of Commas count) stated (λ k d below. record {
  two = refl;
  direction = pos (81 * (get_or stated k d).direction);
  plain = text-plain count (get_or stated k d).direction few (ok k d below).exact;
})

-- The text of a table of all targets is a plain table of them and of their directions.
pub table-plain : (targets : List (List ℕ)) (count : ℕ) (stated : List TargetDirection)
    → AreTargets targets → names_of stated ≡ targets → AreDecimals count
    → All (λ row. IsWhole count row.direction) stated
    → IsPlainTable targets (table_text Commas count stated) (directions_of stated)
table-plain targets count stated ok names few exact =
    let mine : AreTargets (names_of stated) = subst AreTargets (sym names) ok in
    let each = written count stated mine.names exact in
    let rows = rows-again count stated each in
    record {
      short = table-short count stated (omega (
        arith,
        mine.few,
        length-map stated
            (λ (row : TargetDirection). row.name),
      )) few each;
      plain = subst (All IsPlainRow) (sym rows) (each-plain count stated few each);
      faultless = subst (HasNoFault Gon targets) (sym rows)
          (subst (λ ns. HasNoFault Gon ns (map (row_of Commas count) stated)) names
          (clean-rows count stated mine few each));
      stated = ap (λ (all : List (List (List ℕ))). stated_by Gon all targets) rows
          ∙ ap (λ (all : List (List ℕ)). map (direction_in Gon (map (row_of Commas count) stated)) all)
          (sym names)
          ∙ stated-again count stated few mine.different each;
    }

-- So it is a table of them.
pub table-again : (targets : List (List ℕ)) (count : ℕ) (stated : List TargetDirection)
    → AreTargets targets → names_of stated ≡ targets → AreDecimals count
    → All (λ row. IsWhole count row.direction) stated
    → IsTableText (unstated Gon) targets (table_text Commas count stated) (directions_of stated)
table-again targets count stated ok names few exact =
    plain-stands targets (table_text Commas count stated) (directions_of stated) ok
    (table-plain targets count stated ok names few exact)
