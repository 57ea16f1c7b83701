-- The rows that were read: none of them has a fault, and what the next row or the end says of the
-- whole.
use Rattle.std.specs.Prelude.{◌⊎◌}
use Rattle.std.proofs.Common.{◌≡◌, ℕ, ◌<◌, ◌≤◌, Bool, true, false, List, [], ◌∷◌, ◌++◌, length}
use Rattle.std.proofs.Common.{Option, Some, None, All, get_or, refl, ap, sym, subst, ◌∙◌, arith}
use Rattle.std.proofs.Common.{inl, inr, ◌==◌, length-append, append_assoc}
use Rattle.std.proofs.lemmas.Bool.{eqb-true}
use Rattle.std.proofs.lemmas.List.{append-nil}
use Rattle.adjust_kernel.specs.declared.row.Direction.{Direction}
use Rattle.adjust_kernel.specs.declared.row.Orientation.{Orientation}
use Rattle.adjust_kernel.specs.Sheets.{IsDirection, IsOrientation, IsSheet, SheetValue}
use Rattle.sheet_format.specs.Drafts.{DraftValue, IsOfDraft, HasParts, blank, header_rows}
use Rattle.sheet_format.specs.Drafts.{last_of_draft, rows_of_draft, said_by_draft, sheet_of_draft}
use Rattle.sheet_format.specs.Drafts.{version_of_header, with_row}
use Rattle.sheet_format.specs.Faults.{Before, last_row_type, row_fault, said_by, sheet_rules}
use Rattle.sheet_format.specs.RowFaults.{IsFirstFault, NoFaultBefore, fault_between}
use Rattle.sheet_format.specs.RowTypes.{may_end}
use Rattle.sheet_format.specs.Rows.{IsOfVersion, IsSheetText, body_rows, records_of, rows_of}
use Rattle.sheet_format.specs.declared.entry.Header.{Header}
use Rattle.sheet_format.specs.declared.fault.RowKind.{RowKind}
use Rattle.sheet_format.specs.declared.fault.RowKind.TheVariants.{Unfinished}
use Rattle.sheet_format.specs.declared.reading.TheConstants.{LONGEST_SHEET}
use Rattle.sheet_format.specs.declared.version.Version.{Version}
use Rattle.sheet_format.proofs.DraftRows.{IsDirectionOf, IsDraft, IsVersionedHeader}
use Rattle.sheet_format.proofs.DraftRows.{IsOrientationOf, blank-draft, none-or-some, row-taken}
use Rattle.sheet_format.proofs.Ranges.{angle-below, denominator-below}
use Rattle.sheet_format.proofs.RowFaultLaws.{faultless-more, first-here}
use Rattle.sheet_format.proofs.SaidBy.{said}

-- The draft that rows make of a draft.
abbrev pub drafted : DraftValue → List (List (List ℕ)) → DraftValue
drafted d [] = d
drafted d (row ∷ rows) = drafted (with_row d row) rows

-- The rows of a draft were read, these are left, and no row so far has a fault.
pub record HasRead (all : List (List (List ℕ))) (d : DraftValue) (rest : List (List (List ℕ))) :
    Type 0 where
  pub draft : IsDraft d
  pub rows : all ≡ rows_of_draft d ++ rest
  pub faultless : NoFaultBefore sheet_rules all (length (rows_of_draft d))
  pub made : drafted blank all ≡ drafted d rest

-- Before the first row the blank draft is what was read, and all rows are left.
pub read-begin : (all : List (List (List ℕ))) → HasRead all blank all
read-begin all = record {
  draft = blank-draft;
  rows = refl;
  faultless = λ earlier below. absurd (omega (arith, below));
  made = refl;
}

-- With one more row that has no fault, the draft with its entry is what was read.
pub read-more : (all : List (List (List ℕ))) (d e : DraftValue) (row : List (List ℕ))
    (rest : List (List (List ℕ))) → HasRead all d (row ∷ rest)
    → row_fault (said_by_draft d) row ≡ None → e ≡ with_row d row → HasRead all e rest
unfolding fault_between
read-more all d e row rest read none same =
    let taken = row-taken d row read.draft none in
    let here : row_fault (said_by (rows_of_draft d)) row ≡ None =
    rw (said d read.draft.bare) none in
    let more : NoFaultBefore sheet_rules all (length (rows_of_draft d ++ (row ∷ []))) =
    λ earlier below. faultless-more sheet_rules all (rows_of_draft d) (row ∷ rest) read.rows
    read.faultless here earlier
    (omega (arith, below, length-append (rows_of_draft d) (row ∷ []))) in
    subst (λ (x : DraftValue). HasRead all x rest) (sym same) (record {
      draft = taken.draft;
      rows = read.rows ∙ sym (append_assoc (rows_of_draft d) (row ∷ []) rest)
          ∙ ap (λ (rows : List (List (List ℕ))). rows ++ rest) (sym taken.rows);
      faultless =
          subst (λ (rows : List (List (List ℕ))). NoFaultBefore sheet_rules all (length rows))
          (sym taken.rows) more;
      made = read.made;
    })

-- Where the next row has a fault, it is the first fault of all rows.
pub read-fault : (all : List (List (List ℕ))) (d : DraftValue) (row : List (List ℕ))
    (rest : List (List (List ℕ))) (k : RowKind) → HasRead all d (row ∷ rest)
    → row_fault (said_by_draft d) row ≡ Some k
    → IsFirstFault sheet_rules all (length (rows_of_draft d)) k
unfolding fault_between
read-fault all d row rest k read found =
    let here : row_fault (said_by (rows_of_draft d)) row ≡ Some k =
    rw (said d read.draft.bare) found in
    first-here sheet_rules all (rows_of_draft d) (row ∷ rest) read.rows read.faultless k here

-- Directions within the range of a version are directions of a sheet.
directions-below : (v : Version) (ds : List Direction) → All (IsDirectionOf v) ds
    → All IsDirection ds
directions-below v ds h k x below = let d = h k x below in
    record { name = d.0; value = angle-below v (get_or ds k x).value d.1 }

-- Orientations within the range of a version are orientations of a sheet.
orientations-below : (v : Version) (os : List Orientation) → All (IsOrientationOf v) os
    → All IsOrientation os
orientations-below v os h k x below = let o = h k x below in
    record { set = o.0; value = angle-below v (get_or os k x).value o.1 }

-- A draft that has a row of an observation has all parts of a sheet.
finished-sheet : (d : DraftValue) → IsDraft d → 0 < length d.rows → (s : SheetValue) × IsOfDraft d s
    × IsSheet s
finished-sheet d ok some = by d.header refl
  where
    by : (h : Option Header) → d.header ≡ h → (s : SheetValue) × HasParts h d s × IsSheet s
    by None e =
        let (ds, os, rs) = ok.bare e in
        let none : length d.rows ≡ 0 = rw rs refl in
        absurd (omega (arith, none, some))
    by (Some h) e =
        let header : IsVersionedHeader (Some h) = subst IsVersionedHeader e ok.header in
        let sets = ok.rows_follow some in
        let targets = ok.sets_follow sets in
        let v = version_of_header d.header in (
          sheet_of_draft h d,
          refl,
          record {
            name = header.0;
            denominator = (header.1, denominator-below h.version h.denominator header.2);
            directions = record {
              some = omega (arith, targets);
              few = ok.few_directions;
              each = directions-below v d.directions ok.directions;
            };
            orientations = record {
              some = omega (arith, sets);
              few = ok.few_orientations;
              each = orientations-below v d.orientations ok.orientations;
            };
            rows = record { some = omega (arith, some); few = ok.few_rows; each = ok.rows };
          },
        )

-- A draft has the parts of a sheet, or no sheet has its parts.
pub whole-or-not : (d : DraftValue) → IsDraft d → ((s : SheetValue) × IsOfDraft d s × IsSheet s)
    ⊎ ((s : SheetValue) → IsOfDraft d s → IsSheet s → ⊥)
whole-or-not d ok = elim (none-or-some d.rows) [
  | inl none ↦ inr (λ s parts whole. bare-of-rows d s none parts whole)
  | inr some ↦ inl (finished-sheet d ok some)
]
  where
    bare-of-rows : (d : DraftValue) (s : SheetValue) → (length d.rows == 0) ≡ true → IsOfDraft d s
        → IsSheet s → ⊥
    bare-of-rows d s none parts whole = at d.header parts
      where
        at : (h : Option Header) → HasParts h d s → ⊥
        at None p = p
        at (Some h) p =
            let same : length s.rows ≡ length d.rows = ap (λ (x : SheetValue). length x.rows) p in
            let zero : length d.rows ≡ 0 = eqb-true _ _ none in
            omega (arith, same, zero, whole.rows.some)

-- Where no sheet has the parts of the draft at the end, the end is the first fault.
pub read-end : (all : List (List (List ℕ))) (d : DraftValue) → HasRead all d []
    → ((s : SheetValue) → IsOfDraft d s → IsSheet s → ⊥)
    → IsFirstFault sheet_rules all (length (rows_of_draft d)) Unfinished
unfolding fault_between
read-end all d read no_sheet =
    let unfinished : may_end (last_row_type (rows_of_draft d)) ≡ false =
    rw (ap (λ (b : Before). b.last) (said d read.draft.bare))
    (by (may_end (last_of_draft d)) refl) in
    first-here sheet_rules all (rows_of_draft d) [] read.rows read.faultless Unfinished
    (rw unfinished refl)
  where
    by : (b : Bool) → may_end (last_of_draft d) ≡ b → may_end (last_of_draft d) ≡ false
    by false e = e
    by true e = elim (none-or-some d.rows) [
      | inl none ↦ grind arith
      | inr some ↦ let (s, parts, whole) = finished-sheet d read.draft some in
          absurd (no_sheet s parts whole)
    ]

-- Where a sheet has the parts of the draft at the end, the bytes stand for it.
pub read-whole : (bytes : List ℕ) (d : DraftValue) (s : SheetValue) → length bytes ≤ LONGEST_SHEET
    → HasRead (records_of bytes) d [] → IsOfDraft d s → IsSheet s → IsSheetText bytes s
read-whole bytes d s short read parts whole = by d.header refl parts
  where
    by : (h : Option Header) → d.header ≡ h → HasParts h d s → IsSheetText bytes s
    by None e p = absurd p
    by (Some h) e p =
        let header : IsVersionedHeader (Some h) = subst IsVersionedHeader e read.draft.header in
        let directions : All (IsDirectionOf h.version) d.directions =
        subst (λ (o : Option Header). All (IsDirectionOf (version_of_header o)) d.directions) e
        read.draft.directions in
        let orientations : All (IsOrientationOf h.version) d.orientations =
        subst (λ (o : Option Header). All (IsOrientationOf (version_of_header o))
        d.orientations) e read.draft.orientations in
        let rows : records_of bytes ≡ rows_of h.version (sheet_of_draft h d) =
        read.rows ∙ append-nil (rows_of_draft d)
        ∙ ap (λ (o : Option Header). header_rows o
        ++ body_rows d.directions d.orientations d.rows) e in
        let of_version : IsOfVersion h.version (sheet_of_draft h d) = record {
          denominator = header.2;
          directions = λ k x below. (directions k x below).1;
          orientations = λ k x below. (orientations k x below).1;
        } in
        record {
          short = short;
          version = h.version;
          rows = subst (λ (x : SheetValue). records_of bytes ≡ rows_of h.version x) (sym p) rows;
          within = subst (IsOfVersion h.version) (sym p) of_version;
          sheet = whole;
        }
