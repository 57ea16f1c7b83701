-- What the rows of a draft say of the next row: the lists of the draft tell it as the rows do.
use Rattle.std.specs.Prelude.{if◌then◌else◌, unwrap_or, option_and_then}
use Rattle.std.specs.List.{last_or}
use Rattle.std.proofs.Common.{◌≡◌, ℕ, ◌+◌, Bool, true, false, List, [], ◌∷◌, ◌++◌, map, length}
use Rattle.std.proofs.Common.{Option, Some, None, refl, ap, sym, ◌∙◌, arith, ◌==◌, codes}
use Rattle.std.proofs.lemmas.List.Sums.{sum_by-append, sum_by-cons}
use Rattle.std.proofs.Math.Dec.{eqb-suc-zero}
use Rattle.adjust_kernel.specs.declared.row.Direction.{Direction}
use Rattle.adjust_kernel.specs.declared.row.Orientation.{Orientation}
use Rattle.adjust_kernel.specs.declared.row.Row.{Row}
use Rattle.sheet_format.specs.Drafts.{DraftValue, header_rows, last_of_draft, last_of_header}
use Rattle.sheet_format.specs.Drafts.{rows_of_draft, said_by_draft, version_of_header}
use Rattle.sheet_format.specs.Faults.{Before, count_of, first_field, last_row_type, said_by}
use Rattle.sheet_format.specs.Faults.{version_of_rows}
use Rattle.sheet_format.specs.RowTypes.{row_type_of, names_row_type}
use Rattle.sheet_format.specs.Rows.{body_rows, obs_fields, set_fields, sheet_fields, target_fields}
use Rattle.sheet_format.specs.Versions.{version_of, version_text}
use Rattle.sheet_format.specs.declared.entry.Header.{Header}
use Rattle.sheet_format.specs.declared.row_type.RowType.{RowType}
use Rattle.sheet_format.specs.declared.row_type.RowType.TheVariants as row_type
use Rattle.sheet_format.specs.declared.version.Version.{Version}
use Rattle.sheet_format.specs.declared.version.Version.TheVariants as version

-- The type of the last of these rows, or where there is none, this type.
abbrev row_type_from : Option RowType → List (List (List ℕ)) → Option RowType
row_type_from kind [] = kind
row_type_from kind (row ∷ others) = row_type_from (row_type_of (first_field row)) others

row_type_from-last : (last : Option (List (List ℕ))) (rows : List (List (List ℕ)))
    → row_type_from (option_and_then (λ row. row_type_of (first_field row)) last) rows
    ≡ option_and_then (λ row. row_type_of (first_field row)) (last_or last rows)
row_type_from-last last [] = refl
row_type_from-last last (row ∷ rows) = row_type_from-last (Some row) rows

-- The last type of joined rows.
row_type_from-append : (k : Option RowType) (xs ys : List (List (List ℕ)))
    → row_type_from k (xs ++ ys) ≡ row_type_from (row_type_from k xs) ys
row_type_from-append k [] ys = refl
row_type_from-append k (x ∷ xs) ys = row_type_from-append (row_type_of (first_field x)) xs ys

either-way : (b : Bool) (x : Option RowType) → (if b then x else x) ≡ x
either-way true x = refl
either-way false x = refl

row_type_from-map : {X : Type 0} (f : X → List (List ℕ)) (k : RowType)
    → ((x : X) → row_type_of (first_field (f x)) ≡ Some k) → (before : Option RowType) (xs : List X)
    → row_type_from before (map f xs) ≡ (if length xs == 0 then before else Some k)
row_type_from-map f k named before [] = refl
row_type_from-map f k named before (x ∷ xs) =
    row_type_from-map f k named (row_type_of (first_field (f x))) xs
    ∙ ap (λ (o : Option RowType). if length xs == 0 then o else Some k) (named x)
    ∙ either-way (length xs == 0) (Some k)
    ∙ sym (rw (eqb-suc-zero (length xs)) refl)

-- How many of joined rows are of a type.
count_of-append : (k : RowType) (xs ys : List (List (List ℕ)))
    → count_of k (xs ++ ys) ≡ count_of k xs + count_of k ys
count_of-append k xs ys = sum_by-append _ xs ys

count-all : {X : Type 0} (f : X → List (List ℕ)) (k : RowType)
    → ((x : X) → names_row_type k (first_field (f x)) ≡ true) → (xs : List X)
    → count_of k (map f xs) ≡ length xs
count-all f k named [] = refl
count-all f k named (x ∷ xs) = sum_by-cons _ (f x) (map f xs)
    ∙ rw (named x, count-all f k named xs) (omega arith)

count-none : {X : Type 0} (f : X → List (List ℕ)) (k : RowType)
    → ((x : X) → names_row_type k (first_field (f x)) ≡ false) → (xs : List X)
    → count_of k (map f xs) ≡ 0
count-none f k named [] = refl
count-none f k named (x ∷ xs) = sum_by-cons _ (f x) (map f xs)
    ∙ rw (named x, count-none f k named xs) refl

count_of-body : (k : RowType) (hs : List (List (List ℕ))) (ds : List Direction)
    (os : List Orientation) (rs : List Row) (a b c e : ℕ)
    → count_of k hs ≡ a → count_of k (map target_fields ds) ≡ b → count_of k (map set_fields os) ≡ c
    → count_of k (map obs_fields rs) ≡ e
    → count_of k (hs ++ body_rows ds os rs) ≡ a + (b + (c + e))
count_of-body k hs ds os rs a b c e at_hs at_ds at_os at_rs =
    rw (
      count_of-append k hs (body_rows ds os rs),
      count_of-append k (map target_fields ds) (map set_fields os ++ map obs_fields rs),
      count_of-append k (map set_fields os) (map obs_fields rs),
      at_hs,
      at_ds,
      at_os,
      at_rs,
    ) refl

-- The rows of a header: of none of the other types.
header-count : (k : RowType) → names_row_type k (codes "sheet") ≡ false → (h : Option Header)
    → count_of k (header_rows h) ≡ 0
header-count k other None = refl
header-count k other (Some h) = count-none (λ (x : Header).
    sheet_fields x.version x.name x.denominator) k (λ x. other) (h ∷ [])

targets-counted : (h : Option Header) (ds : List Direction) (os : List Orientation) (rs : List Row)
    → count_of row_type.Target (header_rows h ++ body_rows ds os rs) ≡ length ds
targets-counted h ds os rs =
    count_of-body row_type.Target (header_rows h) ds os rs 0 (length ds) 0 0
    (header-count row_type.Target refl h)
    (count-all target_fields row_type.Target (λ x. refl) ds)
    (count-none set_fields row_type.Target (λ x. refl) os)
    (count-none obs_fields row_type.Target (λ x. refl) rs)
    ∙ omega arith

sets-counted : (h : Option Header) (ds : List Direction) (os : List Orientation) (rs : List Row)
    → count_of row_type.Set (header_rows h ++ body_rows ds os rs) ≡ length os
sets-counted h ds os rs =
    count_of-body row_type.Set (header_rows h) ds os rs 0 0 (length os) 0
    (header-count row_type.Set refl h)
    (count-none target_fields row_type.Set (λ x. refl) ds)
    (count-all set_fields row_type.Set (λ x. refl) os)
    (count-none obs_fields row_type.Set (λ x. refl) rs)
    ∙ omega arith

obs-counted : (h : Option Header) (ds : List Direction) (os : List Orientation) (rs : List Row)
    → count_of row_type.Obs (header_rows h ++ body_rows ds os rs) ≡ length rs
obs-counted h ds os rs =
    count_of-body row_type.Obs (header_rows h) ds os rs 0 0 0 (length rs)
    (header-count row_type.Obs refl h)
    (count-none target_fields row_type.Obs (λ x. refl) ds)
    (count-none set_fields row_type.Obs (λ x. refl) os)
    (count-all obs_fields row_type.Obs (λ x. refl) rs)
    ∙ omega arith

-- The last type of a draft's rows.
header-last : (h : Option Header) → row_type_from None (header_rows h) ≡ last_of_header h
header-last None = refl
header-last (Some h) = refl

last-said : (h : Option Header) (ds : List Direction) (os : List Orientation) (rs : List Row)
    → last_row_type (header_rows h ++ body_rows ds os rs)
    ≡ last_of_draft (record { header = h; directions = ds; orientations = os; rows = rs })
last-said h ds os rs =
    sym (row_type_from-last None (header_rows h ++ body_rows ds os rs)) ∙
    rw (
      row_type_from-append None (header_rows h) (body_rows ds os rs),
      header-last h,
      row_type_from-append (last_of_header h) (map target_fields ds)
          (map set_fields os ++ map obs_fields rs),
      row_type_from-map target_fields row_type.Target (λ x. refl) (last_of_header h) ds,
      row_type_from-append (if length ds == 0 then last_of_header h else Some row_type.Target)
          (map set_fields os) (map obs_fields rs),
      row_type_from-map set_fields row_type.Set (λ x. refl) (if length ds == 0 then last_of_header h
          else Some row_type.Target) os,
      row_type_from-map obs_fields row_type.Obs (λ x. refl)
          (if length os == 0 then (if length ds == 0 then last_of_header h
          else Some row_type.Target) else Some row_type.Set) rs,
    )
    refl

-- The version of a draft's rows; a draft without a first row is to have no other.
abbrev pub IsBare : DraftValue → Type 0
IsBare d = (d.directions ≡ []) × (d.orientations ≡ []) × (d.rows ≡ [])

named-version : (v : Version) → unwrap_or (version_of (version_text v)) version.One ≡ v
named-version version.One = refl
named-version version.Two = refl

version-said : (h : Option Header) (d : DraftValue) → (h ≡ None → IsBare d)
    → version_of_rows (header_rows h ++ body_rows d.directions d.orientations d.rows)
    ≡ version_of_header h
version-said None d bare =
    let (ds, os, rs) = bare refl in
    rw (ds, os, rs) refl
version-said (Some h) d bare = named-version h.version

same-said : (a b : Before) → a.last ≡ b.last → a.version ≡ b.version → a.targets ≡ b.targets
    → a.sets ≡ b.sets → a.obs ≡ b.obs → a ≡ b
same-said a b last version targets sets obs = rw (last, version, targets, sets, obs) refl

-- What a draft's rows say of the next row is what its lists say.
pub said : (d : DraftValue) → (d.header ≡ None → IsBare d)
    → said_by (rows_of_draft d) ≡ said_by_draft d
said d bare = same-said _ _
    (last-said d.header d.directions d.orientations d.rows)
    (version-said d.header d bare)
    (targets-counted d.header d.directions d.orientations d.rows)
    (sets-counted d.header d.directions d.orientations d.rows)
    (obs-counted d.header d.directions d.orientations d.rows)
