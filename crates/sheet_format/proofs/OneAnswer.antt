-- Bytes stand for at most one sheet, have at most one fault, and never both.
use Rattle.std.proofs.Common.{◌≡◌, ℕ, ◌+◌, ◌≤◌, true, false, List, [], ◌∷◌, ◌++◌, map, length}
use Rattle.std.proofs.Common.{Option, Some, None, refl, ap, sym, ◌∙◌, arith, inl, inr, ◌==◌, Result}
use Rattle.std.proofs.Common.{Ok, Err}
use Rattle.std.specs.Prelude.{◌⊎◌, nat_lt, IfOk, IfErr}
use Rattle.std.proofs.lemmas.Bool.{cases_Bool, cases_lt, ltb-false, ltb-true, ne_eqb}
use Rattle.std.proofs.lemmas.Option.{none-some}
use Rattle.adjust_kernel.specs.Sheets.{IsSheet, SheetValue}
use Rattle.sheet_format.specs.Drafts.{DraftValue, blank, last_of_draft, rows_of_draft}
use Rattle.sheet_format.specs.Drafts.{said_by_draft, with_row}
use Rattle.sheet_format.specs.Faults.{Before, IsSheetFaultOrMemory, IsSheetFault, last_row_type}
use Rattle.sheet_format.specs.Faults.{row_fault, sheet_rules}
use Rattle.sheet_format.specs.RowFaults.{fault_at}
use Rattle.sheet_format.specs.RowTypes.{may_end}
use Rattle.sheet_format.specs.Rows.{IsOfVersion, IsSheetText, body_rows, obs_fields, records_of}
use Rattle.sheet_format.specs.Rows.{rows_of, set_fields, sheet_fields}
use Rattle.sheet_format.specs.declared.entry.Header.{Header}
use Rattle.sheet_format.specs.declared.fault.RowKind.{RowKind}
use Rattle.sheet_format.specs.declared.fault.RowKind.TheVariants.{Unfinished}
use Rattle.sheet_format.specs.declared.fault.SheetFault.{SheetFault}
use Rattle.sheet_format.specs.declared.fault.SheetFault.TheVariants.{TooLong, Row, Memory}
use Rattle.sheet_format.specs.declared.reading.TheConstants.{LONGEST_SHEET}
use Rattle.sheet_format.specs.declared.version.Version.{Version}
use Rattle.sheet_format.proofs.FirstFaults.{HasRead, drafted, read-begin, read-end, read-fault}
use Rattle.sheet_format.proofs.FirstFaults.{read-more, read-whole, whole-or-not}
use Rattle.sheet_format.proofs.RowFaultLaws.{past-end, same-kind, same-place}
use Rattle.sheet_format.proofs.SaidBy.{said}
use Rattle.sheet_format.proofs.SheetRows.{draft, obs-read, sets-read, sheet-row-clean, targets-read}

abbrev header_for : Version → SheetValue → Header
header_for v s = record { version = v; name = s.name; denominator = s.denominator }

-- The rows of a sheet are read whole.
sheet-read : (v : Version) (s : SheetValue) → IsSheet s → IsOfVersion v s
    → HasRead (rows_of v s) (draft (header_for v s) s.directions s.orientations s.rows) []
sheet-read v s whole within =
    let all = rows_of v s in
    let h = header_for v s in
    let (none, same) = sheet-row-clean h (whole.name, whole.denominator.0, within.denominator) in
    let first = read-more all blank (draft h [] [] []) (sheet_fields v s.name s.denominator)
    (body_rows s.directions s.orientations s.rows) (read-begin all) none same in
    let targets = targets-read all h [] s.directions
    (map set_fields s.orientations ++ map obs_fields s.rows) first
    (λ k d below. ((whole.directions.each k d below).name, within.directions k d below))
    (omega (arith, whole.directions.few)) in
    let sets = sets-read all h s.directions [] s.orientations (map obs_fields s.rows)
    (ne_eqb _ _ (λ e. absurd (omega (arith, e, whole.directions.some)))) targets
    (λ k o below. ((whole.orientations.each k o below).set, within.orientations k o below))
    (omega (arith, whole.orientations.few)) in
    obs-read all h s.directions s.orientations [] s.rows
    (ne_eqb _ _ (λ e. absurd (omega (arith, e, whole.orientations.some)))) sets whole.rows.each
    (omega (arith, whole.rows.few))

-- No place of the rows of a sheet has a fault.
clean-end : (v : Version) (s : SheetValue) → IsSheet s
    → may_end (last_row_type (rows_of v s)) ≡ true
clean-end v s whole =
    let d = draft (header_for v s) s.directions s.orientations s.rows in
    let last : last_row_type (rows_of v s) ≡ last_of_draft d =
    ap (λ (b : Before). b.last) (said d (λ e. cc e)) in
    let some : (length s.rows == 0) ≡ false =
    ne_eqb _ _ (λ e. absurd (omega (arith, e, whole.rows.some))) in
    rw (last, some) refl

clean : (v : Version) (s : SheetValue) → IsSheet s → IsOfVersion v s → (place : ℕ)
    → fault_at sheet_rules (rows_of v s) place ≡ None
clean v s whole within place = elim (cases_Bool (nat_lt place (length (rows_of v s)))) [
  | inl before ↦ (sheet-read v s whole within).faultless place (ltb-true _ _ before)
  | inr after ↦ let past = ltb-false _ _ after in
      past-end sheet_rules (rows_of v s) place past ∙ rw (clean-end v s whole) refl
]

-- Bytes that stand for a sheet have no fault.
pub never-both : (bytes : List ℕ) (s : SheetValue) (f : SheetFault) → IsSheetText bytes s
    → IsSheetFault bytes f → ⊥
never-both bytes s TooLong text fault = omega (arith, text.short, fault)
never-both bytes s (Row number kind) text fault =
    let (short, place, counted, found) = fault in
    let v = text.version in
    let rows = text.rows in
    let within = text.within in
    none-some kind (sym (clean v s text.sheet within place)
    ∙ ap (λ (all : List (List (List ℕ))). fault_at sheet_rules all place) (sym rows) ∙ found.here)
never-both bytes s Memory text fault = absurd fault

-- Bytes have one fault at most.
pub one-fault : (bytes : List ℕ) (f g : SheetFault) → IsSheetFault bytes f → IsSheetFault bytes g
    → f ≡ g
one-fault bytes TooLong TooLong a b = refl
one-fault bytes TooLong (Row n k) a b = absurd (omega (arith, a, b.0))
one-fault bytes TooLong Memory a b = absurd b
one-fault bytes (Row n j) TooLong a b = absurd (omega (arith, b, a.0))
one-fault bytes (Row n j) (Row m k) a b =
    let (short, p, at_p, one) = a in
    let (short2, q, at_q, two) = b in
    let place = same-place sheet_rules (records_of bytes) p q j k one two in
    let number : n ≡ m = omega (arith, at_p, at_q, place) in
    rw (number, same-kind sheet_rules (records_of bytes) p q j k one two place) refl
one-fault bytes (Row n j) Memory a b = absurd b
one-fault bytes Memory g a b = absurd a

-- The sheet of what a first row states and of the entries of a draft.
abbrev parts_of : Option Header → DraftValue → SheetValue
parts_of None d = record {
  name = [];
  denominator = 0;
  directions = d.directions;
  orientations = d.orientations;
  rows = d.rows;
}
parts_of (Some h) d = record {
  name = h.name;
  denominator = h.denominator;
  directions = d.directions;
  orientations = d.orientations;
  rows = d.rows;
}

made-of : (bytes : List ℕ) (s : SheetValue) → IsSheetText bytes s
    → parts_of (drafted blank (records_of bytes)).header (drafted blank (records_of bytes)) ≡ s
made-of bytes s text =
    let v = text.version in
    let rows = text.rows in
    let within = text.within in
    let made : drafted blank (records_of bytes)
    ≡ draft (header_for v s) s.directions s.orientations s.rows = ap (drafted blank) rows
    ∙ (sheet-read v s text.sheet within).made in
    ap (λ (d : DraftValue). parts_of d.header d) made

-- Bytes stand for one sheet at most.
pub one-sheet : (bytes : List ℕ) (s t : SheetValue) → IsSheetText bytes s → IsSheetText bytes t
    → s ≡ t
one-sheet bytes s t a b = sym (made-of bytes s a) ∙ made-of bytes t b

-- An answer that is right whenever it is a sheet or a fault is the one that the bytes have, or out
-- of memory.
pub answers-sheet : (bytes : List ℕ) (r : Result SheetValue SheetFault) → IfOk r (IsSheetText bytes)
    → IfErr r (IsSheetFaultOrMemory bytes) → (s : SheetValue) → IsSheetText bytes s → (r ≡ Ok s)
    ⊎ (r ≡ Err Memory)
answers-sheet bytes (Ok t) ok err s text = inl
    (ap (λ (x : SheetValue). Ok x) (one-sheet bytes t s ok text))
answers-sheet bytes (Err f) ok err s text = elim err [
  | inl fault ↦ absurd (never-both bytes s f text fault)
  | inr memory ↦ inr (ap (λ (x : SheetFault). Err x) memory)
]

-- Where the bytes have a fault, such an answer is that fault, or out of memory.
pub answers-fault : (bytes : List ℕ) (r : Result SheetValue SheetFault) → IfOk r (IsSheetText bytes)
    → IfErr r (IsSheetFaultOrMemory bytes) → (f : SheetFault) → IsSheetFault bytes f → (r ≡ Err f)
    ⊎ (r ≡ Err Memory)
answers-fault bytes (Ok t) ok err f fault = absurd (never-both bytes t f ok fault)
answers-fault bytes (Err g) ok err f fault = elim err [
  | inl same ↦ inl (ap (λ (x : SheetFault). Err x) (one-fault bytes g f same fault))
  | inr memory ↦ inr (ap (λ (x : SheetFault). Err x) memory)
]

-- Bytes stand for a sheet, or they have a fault.
abbrev pub SheetOrFault : List ℕ → Type 0
SheetOrFault bytes = ((s : SheetValue) × IsSheetText bytes s)
    ⊎ ((f : SheetFault) × IsSheetFault bytes f)

decided-rows : (bytes : List ℕ) → length bytes ≤ LONGEST_SHEET
    → (rest : List (List (List ℕ))) (d : DraftValue) → HasRead (records_of bytes) d rest
    → SheetOrFault bytes
decided-rows bytes short [] d read = elim (whole-or-not d read.draft) [
  | inl whole ↦ let (s, parts, valid) = whole in
      inl (s, read-whole bytes d s short read parts valid)
  | inr none ↦ inr (
    Row (length (rows_of_draft d) + 1) Unfinished,
    (short, length (rows_of_draft d), refl, read-end (records_of bytes) d read none),
  )
]
decided-rows bytes short (row ∷ rest) d read =
    by (row_fault (said_by_draft d) row) refl
    (λ next. decided-rows bytes short rest (with_row d row) next)
  where
    by : (o : Option RowKind) → row_fault (said_by_draft d) row ≡ o
        → (HasRead (records_of bytes) (with_row d row) rest → SheetOrFault bytes)
        → SheetOrFault bytes
    by None e later = later (read-more (records_of bytes) d (with_row d row) row rest read e refl)
    by (Some k) e later = inr (
      Row (length (rows_of_draft d) + 1) k,
      (short, length (rows_of_draft d), refl, read-fault (records_of bytes) d row rest k read e),
    )

-- Bytes stand for a sheet, or have a fault.
pub sheet-or-fault : (bytes : List ℕ) → SheetOrFault bytes
sheet-or-fault bytes = elim (cases_lt LONGEST_SHEET (length bytes)) [
  | inl long ↦ inr (TooLong, long)
  | inr short ↦ decided-rows bytes short (records_of bytes) blank (read-begin (records_of bytes))
]
