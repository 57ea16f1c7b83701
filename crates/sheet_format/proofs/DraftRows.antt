-- A draft stands for the rows that it took: each row without a fault is the text of the entry that
-- it adds.
use Rattle.std.specs.Prelude.{◌⊎◌, ◌-◌, nat_lt}
use Rattle.std.proofs.Common.{◌≡◌, ℕ, ◌<◌, ◌≤◌, Bool, true, false, List, [], ◌∷◌, ◌++◌, length}
use Rattle.std.proofs.Common.{Option, Some, None, All, refl, arith, ◌==◌, inl, inr, append_assoc}
use Rattle.std.proofs.Common.{length-append, rules, ◌≢◌, pos}
use Rattle.std.specs.List.{find}
use Rattle.std.specs.Option.{option_map_or, option_or}
use Rattle.std.proofs.lemmas.Bool.{and_parts, eqb-true, cases_Bool}
use Rattle.std.proofs.lemmas.Bool.Decides.{nat_tests}
use Rattle.std.proofs.lemmas.List.{append-nil, map-append, nil_from_length}
use Rattle.std.proofs.lemmas.List.Elements.{All-nil, All-push}
use Rattle.std.proofs.lemmas.Slice.Eq.{bytes_eq-Decides}
use Rattle.std.specs.Str.{bytes_eq}
use Rattle.adjust_kernel.specs.Names.{IsName}
use Rattle.adjust_kernel.specs.Sheets.{IsRow, IsSetNumber}
use Rattle.adjust_kernel.specs.Within.{IsWithin}
use Rattle.adjust_kernel.specs.declared.bounds.TheConstants.{LARGEST_SET_NUMBER, LARGEST_TURN}
use Rattle.adjust_kernel.specs.declared.bounds.TheConstants.{MOST_ROWS, MOST_SETS, MOST_TARGETS}
use Rattle.adjust_kernel.specs.declared.bounds.TheConstants.{TURN}
use Rattle.adjust_kernel.specs.declared.row.Direction.{Direction}
use Rattle.adjust_kernel.specs.declared.row.Orientation.{Orientation}
use Rattle.sheet_format.specs.Numbers.{is_canonical, is_within, natural_of, value_of}
use Rattle.sheet_format.specs.Faults.{is_set_number, is_circle_value, columns_fault, row_type_fault}
use Rattle.sheet_format.specs.Faults.{obs_fault, row_fault, set_fault, sheet_row_fault}
use Rattle.sheet_format.specs.Faults.{target_fault, versioned_fault}
use Rattle.sheet_format.specs.RowFaults.{unless}
use Rattle.sheet_format.specs.Columns.{Fields}
use Rattle.sheet_format.specs.Drafts.{DraftValue, blank, direction_of, header_of, last_of_draft}
use Rattle.sheet_format.specs.Drafts.{obs_row_of, orientation_of, rows_of_draft, said_by_draft}
use Rattle.sheet_format.specs.Drafts.{version_of_header, with_columns, with_row_type, with_row}
use Rattle.sheet_format.specs.RowTypes.{row_type_of, row_type_text, may_follow, names_row_type}
use Rattle.sheet_format.specs.Rows.{obs_fields, set_fields, sheet_fields, target_fields}
use Rattle.sheet_format.specs.Versions.{largest_angle, largest_denominator, version_of}
use Rattle.sheet_format.specs.Versions.{version_text}
use Rattle.sheet_format.specs.declared.entry.Header.{Header}
use Rattle.sheet_format.specs.declared.fault.RowKind.{RowKind}
use Rattle.sheet_format.specs.declared.fault.RowKind.TheVariants as fault
use Rattle.sheet_format.specs.declared.row_type.RowType.{RowType}
use Rattle.sheet_format.specs.declared.row_type.RowType.TheVariants as row_type
use Rattle.sheet_format.specs.declared.version.Version.{Version}
use Rattle.sheet_format.specs.declared.version.Version.TheVariants as version
use Rattle.sheet_format.proofs.Ranges.{IsNatural, angle-fits, natural-text, number-text, turn-fits}
use Rattle.sheet_format.proofs.Ranges.{within-found}
use Rattle.sheet_format.proofs.NameTests.{name-found}
use Rattle.sheet_format.proofs.SaidBy.{IsBare}

-- What the first row states is within the limits of its version.
abbrev pub IsVersionedHeader : Option Header → Type 0
IsVersionedHeader None = Unit {0}
IsVersionedHeader (Some h) = IsName h.name × (1 ≤ h.denominator)
    × (h.denominator ≤ largest_denominator h.version)

-- A direction has a name, and is within the range of a version.
abbrev pub IsDirectionOf : Version → Direction → Type 0
IsDirectionOf v d = IsName d.name × IsWithin (largest_angle v) d.value

-- An orientation has a set number, and is within the range of a version.
abbrev pub IsOrientationOf : Version → Orientation → Type 0
IsOrientationOf v o = IsSetNumber o.set × IsWithin (largest_angle v) o.value

-- The entries of a draft are within their limits, and no type of entry stands without the one
-- before it.
pub record IsDraft (d : DraftValue) : Type 0 where
  pub header : IsVersionedHeader d.header
  pub bare : d.header ≡ None → IsBare d
  pub directions : All (IsDirectionOf (version_of_header d.header)) d.directions
  pub orientations : All (IsOrientationOf (version_of_header d.header)) d.orientations
  pub rows : All IsRow d.rows
  pub few_directions : length d.directions ≤ MOST_TARGETS
  pub few_orientations : length d.orientations ≤ MOST_SETS
  pub few_rows : length d.rows ≤ MOST_ROWS
  pub sets_follow : 0 < length d.orientations → 0 < length d.directions
  pub rows_follow : 0 < length d.rows → 0 < length d.orientations

-- The draft before any row is within the limits.
pub blank-draft : IsDraft blank
blank-draft = search (rules, All-nil)

-- A row's entry was added: the draft stands for one row more.
pub record Takes (d : DraftValue) (row : List (List ℕ)) (e : DraftValue) : Type 0 where
  pub rows : rows_of_draft e ≡ rows_of_draft d ++ (row ∷ [])
  pub draft : IsDraft e

-- Where a list of tests finds no fault, its first is met, and the others find none.
met : (test : Bool) (k : RowKind) (later : Option RowKind) → option_or (unless test k) later ≡ None
    → (test ≡ true) × (later ≡ None)
met true k later e = (refl, e)
met false k later e = cc e

-- Where neither the columns of a row nor the number of its type are a fault, there is room.
room : (found : Option RowKind) (n most : ℕ)
    → option_or found (unless (nat_lt n most) fault.TooMany) ≡ None → (found ≡ None) × (n < most)
room None n most e = (refl, grind (arith, nat_tests))
room (Some k) n most e = cc e

-- The fields of a row that has five columns.
abbrev listed : Fields → List (List ℕ)
listed c = c.row_type ∷ c.number ∷ c.name ∷ c.value ∷ c.turn ∷ []

-- The first of a list that passes a test passes it.
first-passes : {X : Type 0} (p : X → Bool) (xs : List X) (x : X) → find p xs ≡ Some x → p x ≡ true
first-passes p [] x e = cc e
first-passes p (y ∷ ys) x e = grind (arith, first-passes p ys x)

-- A field that names a type is the text of that type.
row_type-found : (bs : List ℕ) (k : RowType) → row_type_of bs ≡ Some k → bs ≡ row_type_text k
row_type-found bs k h = (bytes_eq-Decides bs (row_type_text k)).0
    (first-passes (λ t. names_row_type t bs)
    (row_type.Sheet ∷ row_type.Target ∷ row_type.Set ∷ row_type.Obs ∷ []) k h)

-- A field that names a version is the text of that version.
version-found : (bs : List ℕ) (v : Version) → version_of bs ≡ Some v → bs ≡ version_text v
version-found bs v h = (bytes_eq-Decides bs (version_text v)).0
    (first-passes (λ w. bytes_eq bs (version_text w)) (version.One ∷ version.Two ∷ []) v h)

-- A list that the test finds empty is.
none-there : {X : Type 0} (xs : List X) → (length xs == 0) ≡ true → xs ≡ []
none-there xs e = nil_from_length xs (eqb-true _ _ e)

-- A list has no elements, or some.
pub none-or-some : {X : Type 0} (xs : List X) → ((length xs == 0) ≡ true) ⊎ (0 < length xs)
none-or-some xs = elim (cases_Bool (length xs == 0)) [
  | inl e ↦ inl e
  | inr e ↦ inr (grind (arith, nat_tests))
]

-- A denominator that a version allows stands as the text of its number.
denominator-text : (v : Version) (bs : List ℕ) → is_canonical bs ≡ true
    → is_within (pos 1) (pos (largest_denominator v)) (value_of bs) ≡ true
    → IsNatural 1 (largest_denominator v) bs (natural_of (value_of bs))
denominator-text version.One bs = natural-text 1 _ bs (omega arith) (omega arith)
denominator-text version.Two bs = natural-text 1 _ bs (omega arith) (omega arith)

-- So does the number of a set.
set-text : (bs : List ℕ) → is_canonical bs ≡ true → is_set_number (value_of bs) ≡ true
    → IsNatural 1 LARGEST_SET_NUMBER bs (natural_of (value_of bs))
set-text bs = natural-text 1 LARGEST_SET_NUMBER bs (omega arith) (omega arith)

-- And so does a direction on the circle.
circle-text : (bs : List ℕ) → is_canonical bs ≡ true → is_circle_value (value_of bs) ≡ true
    → IsNatural 0 (TURN - 1) bs (natural_of (value_of bs))
circle-text bs = natural-text 0 (TURN - 1) bs (omega arith) (omega arith)

-- The columns of a row without a fault are the text of the entry that they state, which is within
-- its limits: so of a first row, of a target, of a set and of an observation.
abbrev IsSheetRow : Fields → Header → Type 0
IsSheetRow c h = (listed c ≡ sheet_fields h.version h.name h.denominator)
    × IsVersionedHeader (Some h)

versioned-row : (v : Version) (c : Fields) → c.row_type ≡ row_type_text row_type.Sheet
    → c.number ≡ version_text v → versioned_fault v c ≡ None
    → IsSheetRow c (record {
      version = v;
      name = c.name;
      denominator = natural_of (value_of c.value);
    })
versioned-row v c named version none =
    let (empty, t1) = met _ _ _ none in
    let (name, t2) = met _ _ _ t1 in
    let (form, t3) = met _ _ _ t2 in
    let (range, t4) = met _ _ _ t3 in
    let n = denominator-text v c.value form range in (
      rw (named, version, none-there c.turn empty, n.text) refl,
      (name-found c.name name, n.least, n.most),
    )

sheet-row : (c : Fields) → c.row_type ≡ row_type_text row_type.Sheet → sheet_row_fault c ≡ None
    → IsSheetRow c (header_of c)
sheet-row c named none = by (version_of c.number) refl none
  where
    by : (o : Option Version) → version_of c.number ≡ o
        → option_map_or (λ v. versioned_fault v c) o (Some fault.Version) ≡ None
        → IsSheetRow c (header_of c)
    by None x e = cc e
    by (Some v) x e = rw x (versioned-row v c named (version-found c.number v x) e)

target-row : (v : Version) (c : Fields) → c.row_type ≡ row_type_text row_type.Target
    → target_fault v c ≡ None → (listed c ≡ target_fields (direction_of c))
    × IsDirectionOf v (direction_of c)
target-row v c named none =
    let (empty, t1) = met _ _ _ none in
    let (name, t2) = met _ _ _ t1 in
    let (form, t3) = met _ _ _ t2 in
    let (range, t4) = met _ _ _ t3 in
    let (number, turn) = and_parts _ _ empty in
    let value = number-text (largest_angle v) c.value (angle-fits v) form range in (
      rw (named, none-there c.number number, none-there c.turn turn, value) refl,
      (name-found c.name name, within-found (largest_angle v) (value_of c.value) range),
    )

set-row : (v : Version) (c : Fields) → c.row_type ≡ row_type_text row_type.Set
    → set_fault v c ≡ None
    → (listed c ≡ set_fields (orientation_of c)) × IsOrientationOf v (orientation_of c)
set-row v c named none =
    let (empty, t1) = met _ _ _ none in
    let (form, t2) = met _ _ _ t1 in
    let (range, t3) = met _ _ _ t2 in
    let (name, turn) = and_parts _ _ empty in
    let (number_form, value_form) = and_parts _ _ form in
    let (number_range, value_range) = and_parts _ _ range in
    let n = set-text c.number number_form number_range in
    let value = number-text (largest_angle v) c.value (angle-fits v) value_form value_range in (
      rw (named, none-there c.name name, none-there c.turn turn, n.text, value) refl,
      ((n.least, n.most), within-found (largest_angle v) (value_of c.value) value_range),
    )

obs-row : (c : Fields) → c.row_type ≡ row_type_text row_type.Obs → obs_fault c ≡ None
    → (listed c ≡ obs_fields (obs_row_of c)) × IsRow (obs_row_of c)
obs-row c named none =
    let (name, t1) = met _ _ _ none in
    let (form, t2) = met _ _ _ t1 in
    let (range, t3) = met _ _ _ t2 in
    let (two_forms, turn_form) = and_parts _ _ form in
    let (number_form, value_form) = and_parts _ _ two_forms in
    let (two_ranges, turn_range) = and_parts _ _ range in
    let (number_range, value_range) = and_parts _ _ two_ranges in
    let n = set-text c.number number_form number_range in
    let p = circle-text c.value value_form value_range in
    let turn = number-text LARGEST_TURN c.turn turn-fits turn_form turn_range in (
      rw (named, n.text, p.text, turn) refl,
      record {
        set = (n.least, n.most);
        target = name-found c.name name;
        value = omega (arith, p.most);
        turn = within-found LARGEST_TURN (value_of c.turn) turn_range;
      },
    )

-- What a draft has where a row of this type may follow.
abbrev IsReady : RowType → DraftValue → Type 0
IsReady row_type.Sheet d = (d.header ≡ None) × IsBare d
IsReady row_type.Target d = (d.header ≢ None) × (d.orientations ≡ []) × (d.rows ≡ [])
IsReady row_type.Set d = (d.header ≢ None) × (0 < length d.directions) × (d.rows ≡ [])
IsReady row_type.Obs d = (d.header ≢ None) × (0 < length d.orientations)

ready : (d : DraftValue) (k : RowType) → IsDraft d → may_follow (last_of_draft d) k ≡ true
    → IsReady k d
ready d row_type.Sheet ok follows = grind (arith, nat_tests, nil_from_length)
ready d row_type.Target ok follows = grind (arith, nat_tests, nil_from_length, ok.bare)
ready d row_type.Set ok follows = grind (arith, nat_tests, nil_from_length, ok.bare)
ready d row_type.Obs ok follows = grind (arith, nat_tests, nil_from_length, ok.bare)

-- A row without a fault, of whatever type: the draft stands for one row more.
columns-taken : (d : DraftValue) (c : Fields) (k : RowType) → IsDraft d
    → c.row_type ≡ row_type_text k → may_follow (last_of_draft d) k ≡ true
    → columns_fault (said_by_draft d) k c ≡ None → Takes d (listed c) (with_columns k d c)
columns-taken d c row_type.Sheet ok named follows none =
    let (row, header) = sheet-row c named none in
    let (bare, (ds, os, rs)) = ready d row_type.Sheet ok follows in
    let directions : All (IsDirectionOf (header_of c).version) d.directions = rw ds (All-nil _) in
    let orientations : All (IsOrientationOf (header_of c).version) d.orientations =
    rw os (All-nil _) in
    record {
      rows = rw (bare, rs, os, ds, row) refl;
      draft = search (rules, header, directions, orientations);
    }
columns-taken d c row_type.Target ok named follows none =
    let (tests, left) = room _ _ _ none in
    let v = version_of_header d.header in
    let (row, entry) = target-row v c named tests in
    let (headed, os, rs) = ready d row_type.Target ok follows in
    let longer = length-append d.directions (direction_of c ∷ []) in
    let more = All-push (IsDirectionOf v) d.directions (direction_of c) ok.directions entry in
    record {
      rows = rw (rs, os, row) (simp (map-append, append_assoc, append-nil));
      draft = search (rules, headed, longer, more);
    }
columns-taken d c row_type.Set ok named follows none =
    let (tests, left) = room _ _ _ none in
    let v = version_of_header d.header in
    let (row, entry) = set-row v c named tests in
    let (headed, targets, rs) = ready d row_type.Set ok follows in
    let o = orientation_of c in
    let longer = length-append d.orientations (o ∷ []) in
    let more = All-push (IsOrientationOf v) d.orientations o ok.orientations entry in
    record {
      rows = rw (rs, row) (simp (map-append, append_assoc, append-nil));
      draft = search (rules, headed, longer, more);
    }
columns-taken d c row_type.Obs ok named follows none =
    let (tests, left) = room _ _ _ none in
    let (row, entry) = obs-row c named tests in
    let (headed, sets) = ready d row_type.Obs ok follows in
    let longer = length-append d.rows (obs_row_of c ∷ []) in
    let more = All-push IsRow d.rows (obs_row_of c) ok.rows entry in
    record {
      rows = rw row (simp (map-append, append_assoc));
      draft = search (rules, headed, longer, more);
    }

type-taken : (d : DraftValue) (c : Fields) (k : Option RowType) → IsDraft d
    → row_type_of c.row_type ≡ k → row_type_fault (said_by_draft d) k c ≡ None
    → Takes d (listed c) (with_row_type k d c)
type-taken d c None ok x none = cc none
type-taken d c (Some k) ok x none =
    let (follows, tests) = met _ _ _ none in
    columns-taken d c k ok (row_type-found c.row_type k x) follows tests

-- A row without a fault adds its entry to a draft: the draft then stands for one row more.
pub row-taken : (d : DraftValue) (row : List (List ℕ)) → IsDraft d
    → row_fault (said_by_draft d) row ≡ None → Takes d row (with_row d row)
unfolding row_fault with_row
row-taken d (named ∷ number ∷ name ∷ value ∷ turn ∷ []) ok none =
    type-taken d (record {
      row_type = named;
      number = number;
      name = name;
      value = value;
      turn = turn;
    }) (row_type_of named) ok refl none
row-taken d row ok none = cc none
