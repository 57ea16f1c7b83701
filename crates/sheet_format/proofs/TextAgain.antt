-- The text of a sheet stands for that sheet.
use Rattle.std.specs.Prelude.{if◌then◌else◌}
use Rattle.std.proofs.Common.{◌≡◌, ℕ, ◌+◌, ◌<◌, Bool, true, false, List, [], ◌∷◌, ◌++◌, map, length}
use Rattle.std.proofs.Common.{All, refl, ap, ◌∙◌, arith, ℤ}
use Rattle.std.specs.List.{list_all}
use Rattle.std.proofs.lemmas.Bool.{and_parts, leb-true}
use Rattle.std.proofs.lemmas.List.{map-append}
use Rattle.std.proofs.lemmas.List.Elements.{All-cons, All-nil}
use Rattle.csv.specs.Machine.{next_record}
use Rattle.csv.specs.Reading.{default_config, records_from, strip_bom}
use Rattle.csv.specs.Writing.{read_back}
use Rattle.csv.specs.declared.parser.State.TheVariants as st
use Rattle.csv.proofs.RoundTrip.{read-write}
use Rattle.adjust_kernel.specs.Sheets.{IsSheet, SheetValue}
use Rattle.adjust_kernel.specs.Within.{IsWithin}
use Rattle.adjust_kernel.specs.declared.row.Direction.{Direction}
use Rattle.adjust_kernel.specs.declared.row.Orientation.{Orientation}
use Rattle.adjust_kernel.specs.declared.row.Row.{Row}
use Rattle.sheet_format.specs.Numbers.{is_at_most}
use Rattle.sheet_format.specs.Rows.{IsOfVersion, IsSheetText, body_rows, obs_fields, records_of}
use Rattle.sheet_format.specs.Rows.{rows_of, set_fields, sheet_fields, target_fields}
use Rattle.sheet_format.specs.Texts.{is_of_version, rows_text, sheet_text, version_for}
use Rattle.sheet_format.specs.Versions.{largest_angle}
use Rattle.sheet_format.specs.declared.version.Version.{Version}
use Rattle.sheet_format.specs.declared.version.Version.TheVariants.{One, Two}
use Rattle.sheet_format.proofs.Ranges.{within-found}
use Rattle.sheet_format.proofs.RecordFacts.{records-end, records-step}
use Rattle.sheet_format.proofs.TextLengths.{text-short}

-- Rows that were written are read as those rows.
pub records-written : (n : ℕ) (rows : List (List (List ℕ))) → length (rows_text rows) < n
    → records_from default_config n st.StartRecord (rows_text rows) ≡ map read_back rows
unfolding next_record
records-written n [] h = records-end n st.StartRecord [] refl
records-written n (row ∷ rows) h =
    let r = records-step n st.StartRecord (rows_text (row ∷ rows))
    (read_back row, st.StartRecord, rows_text rows) (read-write row (rows_text rows)) refl h in
    r.1 ∙ ap (λ (t : List (List (List ℕ))). read_back row ∷ t) (records-written r.0 rows r.2)

-- Rows that have fields are read back as they are.
pub back-entries : {X : Type 0} (f : X → List (List ℕ)) → ((x : X) → read_back (f x) ≡ f x)
    → (xs : List X) → map read_back (map f xs) ≡ map f xs
back-entries f same [] = refl
back-entries f same (x ∷ xs) = rw (same x, back-entries f same xs) refl

back-body : (ds : List Direction) (os : List Orientation) (rs : List Row)
    → map read_back (body_rows ds os rs) ≡ body_rows ds os rs
back-body ds os rs =
    rw (
      map-append read_back (map target_fields ds) (map set_fields os ++ map obs_fields rs),
      map-append read_back (map set_fields os) (map obs_fields rs),
      back-entries target_fields (λ d. refl) ds,
      back-entries set_fields (λ o. refl) os,
      back-entries obs_fields (λ r. refl) rs,
    )
    refl

-- A text that begins with `sheet` has no byte order mark.
no-mark : (v : Version) (s : SheetValue) → strip_bom (rows_text (rows_of v s))
    ≡ rows_text (rows_of v s)
unfolding strip_bom
no-mark v s = refl

records-again : (v : Version) (s : SheetValue) → records_of (rows_text (rows_of v s)) ≡ rows_of v s
records-again v s =
    rw (no-mark v s) (records-written (length (rows_text (rows_of v s)) + 1) (rows_of v s)
    (omega arith)
    ∙ ap (λ (t : List (List (List ℕ))). sheet_fields v s.name s.denominator ∷ t)
    (back-body s.directions s.orientations s.rows))

-- The version that a sheet is written in is one that it is within.
all-within : {X : Type 0} (most : ℤ) (f : X → ℤ) (xs : List X)
    → list_all (λ x. is_at_most most (f x)) xs ≡ true → All (λ x. IsWithin most (f x)) xs
all-within most f [] e = All-nil _
all-within most f (x ∷ xs) e =
    let p = and_parts _ _ e in
    All-cons (λ x. IsWithin most (f x)) x xs (within-found most (f x) p.0)
    (all-within most f xs p.1)

within-one : (s : SheetValue) → is_of_version One s ≡ true → IsOfVersion One s
within-one s e =
    let (two, orientations) = and_parts _ _ e in
    let (denominator, directions) = and_parts _ _ two in
    record {
      denominator = leb-true _ _ denominator;
      directions = all-within (largest_angle One) (λ (d : Direction). d.value) s.directions
          directions;
      orientations = all-within (largest_angle One) (λ (o : Orientation). o.value) s.orientations
          orientations;
    }

within-two : (s : SheetValue) → IsSheet s → IsOfVersion Two s
within-two s ok = record {
  denominator = ok.denominator.1;
  directions = λ k d below. (ok.directions.each k d below).value;
  orientations = λ k o below. (ok.orientations.each k o below).value;
}

within-version : (s : SheetValue) → IsSheet s → IsOfVersion (version_for s) s
within-version s ok = by (is_of_version One s) refl
  where
    by : (b : Bool) → is_of_version One s ≡ b → IsOfVersion (if b then One else Two) s
    by true e = within-one s e
    by false e = within-two s ok

-- The text of a sheet stands for that sheet.
pub text-again : (s : SheetValue) → IsSheet s → IsSheetText (sheet_text s) s
text-again s ok = record {
  short = text-short s ok;
  version = version_for s;
  rows = records-again (version_for s) s;
  within = within-version s ok;
  sheet = ok;
}
