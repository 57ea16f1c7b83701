-- The rows that are read by a pair of columns, as they are left one after the other.
use Rattle.std.proofs.Common.{◌≡◌, ◌∙◌, ℕ, ◌+◌, ◌-◌, ◌<◌, ◌≤◌, Bool, true, false, List, [], ◌∷◌}
use Rattle.std.proofs.Common.{◌++◌, length, get_or, map, drop, None, refl, ap, sym, arith, inl}
use Rattle.std.proofs.Common.{inr, Result, Ok, Err, OnOk, IfErr, IfOk, Option, ℤ}
use Rattle.std.specs.Prelude.{◌||◌, if◌then◌else◌, not}
use Rattle.std.specs.List.{suffix_len}
use Rattle.std.specs.Str.{bytes_eq}
use Rattle.std.proofs.lemmas.Bool.{and_parts, cases_Bool, lt-leb, not-true, or_parts}
use Rattle.std.proofs.lemmas.List.{drop_all, drop_more, get_or-map, get_or-take, length-map}
use Rattle.std.proofs.lemmas.List.{length-take-le}
use Rattle.csv.specs.Records.{field_at, fields_of}
use Rattle.csv.specs.declared.record.ByteRecord.{ByteRecord}
use Rattle.direction_table.specs.Cells.{names_in}
use Rattle.direction_table.specs.Directions.{is_direction}
use Rattle.direction_table.specs.Faults.{column_row_fault, says_nothing, stating_fault}
use Rattle.direction_table.specs.FieldForms.{has_name, tidy}
use Rattle.direction_table.specs.FoundColumns.{picked, picked_fields, rows_by_pair}
use Rattle.direction_table.specs.FoundColumns.{silent_before, taken_by, up_to_last}
use Rattle.direction_table.specs.Rows.{beside_name, direction_in, name_of}
use Rattle.direction_table.specs.Tables.{stated_by}
use Rattle.direction_table.specs.UsualLimits.{row_step}
use Rattle.direction_table.specs.declared.form.ColumnPair.{ColumnPair}
use Rattle.direction_table.specs.declared.taken.Taken.{Taken}
use Rattle.direction_table.specs.declared.unit.AngleUnit.{AngleUnit}
use Rattle.direction_table.proofs.RowsInTurn.{HasReadBy}
use Rattle.direction_table.proofs.RowsRead.{apart}

-- One more row states nothing of a name that is none of its own.
after-none : (unit : AngleUnit) (before : List (List (List ℕ))) (row : List (List ℕ))
    (name : List ℕ) → bytes_eq (name_of row) name ≡ false
    → direction_in unit (before ++ (row ∷ [])) name ≡ direction_in unit before name
after-none unit [] row name e = rw e refl
after-none unit (first ∷ before) row name e = elim (cases_Bool (bytes_eq (name_of first) name)) [
  | inl h ↦ rw h refl
  | inr h ↦ rw h (after-none unit before row name e)
]

states-after : (unit : AngleUnit) (before : List (List (List ℕ))) (row : List (List ℕ))
    (names : List (List ℕ)) → has_name names (name_of row) ≡ false
    → stated_by unit (before ++ (row ∷ [])) names ≡ stated_by unit before names
states-after unit before row [] e = refl
states-after unit before row (name ∷ names) e =
    let (other, others) = or_parts _ _ e in
    rw (
      after-none unit before row name (apart name (name_of row) other),
      states-after unit before row names others,
    ) refl

-- A row that says nothing has no fault, states nothing and tells no step.
pub record IsPassedOver (unit : AngleUnit) (targets : List (List ℕ))
    (before : List (List (List ℕ))) (row : List (List ℕ)) : Type 0 where
  pub faultless : column_row_fault unit targets before row ≡ None
  pub states : stated_by unit (before ++ (row ∷ [])) targets ≡ stated_by unit before targets
  pub untold : row_step unit row ≡ 0

pub passed_over : (unit : AngleUnit) (targets : List (List ℕ)) (before : List (List (List ℕ)))
    (row : List (List ℕ)) → says_nothing unit targets row ≡ true
    → IsPassedOver unit targets before row
unfolding column_row_fault
passed_over unit targets before row e =
    let (other, none) = and_parts _ _ e in
    record {
      faultless = rw e refl;
      states = states-after unit before row targets (not-true _ other);
      untold = rw (not-true (is_direction unit (beside_name row)) none) refl;
    }

-- Any other row has the fault of what it states.
pub stating : (unit : AngleUnit) (targets : List (List ℕ)) (before : List (List (List ℕ)))
    (row : List (List ℕ)) → says_nothing unit targets row ≡ false
    → column_row_fault unit targets before row ≡ stating_fault unit targets before row
unfolding column_row_fault
stating unit targets before row e = rw e refl

-- Of a row without fields one without bytes is picked.
pub none-picked : (taken : Taken) (unit : AngleUnit) (pair : ColumnPair)
    → picked_fields taken unit pair [] ≡ [] ∷ []
unfolding field_at
none-picked taken unit pair = rw (lt-leb (pair.directions + 1) 0 (omega arith)) refl

-- The rows that are left, where those of the targets have begun or not.
abbrev silent_left : (List (List ℕ) → Bool) → Bool → List (List (List ℕ)) → List (List (List ℕ))
silent_left so true rows = rows
silent_left so false rows = silent_before so rows

silent-more : (so : List (List ℕ) → Bool) (begun : Bool) (row : List (List ℕ))
    (rows : List (List (List ℕ)))
    → silent_left so begun (row ∷ rows)
    ≡ (if begun || so row then row else []) ∷ silent_left so (begun || so row) rows
silent-more so true row rows = refl
silent-more so false row rows = elim (cases_Bool (so row)) [
  | inl e ↦ rw e refl
  | inr e ↦ rw e refl
]

silent-end : (so : List (List ℕ) → Bool) (begun : Bool) → silent_left so begun [] ≡ []
silent-end so true = refl
silent-end so false = refl

module _ (taken : Taken) (unit : AngleUnit) (targets : List (List ℕ)) (pair : ColumnPair)
    (rows : List ByteRecord) where
  abbrev so : List (List ℕ) → Bool
  so = names_in targets pair.names

  abbrev named : List (List (List ℕ))
  named = up_to_last so (map fields_of rows)

  -- The rows that are left from a place on.
  pub picked_left : Bool → ℕ → List (List (List ℕ))
  picked_left begun at = map (picked taken unit targets pair) (silent_left so begun (drop at named))

  -- Before the first row is read all are left.
  pub picked-all : taken ≡ taken_by unit targets pair (map fields_of rows)
      → picked_left false 0 ≡ rows_by_pair unit targets pair (map fields_of rows)
  unfolding picked_left rows_by_pair
  picked-all e = rw e refl

  module _ (end : ℕ) (is_end : end + suffix_len (λ row. not (so row)) (map fields_of rows)
      ≡ length rows) where
    -- How many rows there are up to the last that names a target.
    abbrev up_to : ℕ
    up_to =
        length (map fields_of rows)
        - suffix_len (λ row. not (so row)) (map fields_of rows)

    long : length named ≡ end
    long = length-take-le up_to (map fields_of rows) (omega arith)
        ∙ omega (arith, is_end, length-map rows fields_of)

    at-place : (at : ℕ) (row : ByteRecord) → at < end → row ≡ get_or rows at row
        → get_or named at (fields_of row) ≡ fields_of row
    at-place at row inside is =
        get_or-take up_to (map fields_of rows) at (fields_of row)
        (omega (arith, inside, is_end, length-map rows fields_of))
        ∙ get_or-map fields_of rows at row (fields_of row) (omega (arith, inside, is_end))
        ∙ ap fields_of (sym is)

    -- They are the one at the place, if those of the targets have begun, and those after it.
    pub picked-more : (begun : Bool) (at : ℕ) (row : ByteRecord) → at < end
        → row ≡ get_or rows at row
        → picked_left begun at
        ≡ picked taken unit targets pair (if begun || so (fields_of row) then fields_of row else [])
        ∷ picked_left (begun || so (fields_of row)) (at + 1)
    unfolding picked_left
    picked-more begun at row inside is =
        let more = drop_more named at (fields_of row) (omega (arith, inside, long)) in
        rw (more, at-place at row inside is)
        (ap (map (picked taken unit targets pair))
        (silent-more so begun (fields_of row) (drop (at + 1) named)))

    -- The same, by the fields that were picked of it.
    pub picked-next : (begun next : Bool) (at : ℕ) (row : ByteRecord) (fields : List (List ℕ))
        → at < end → row ≡ get_or rows at row → next ≡ (begun || so (fields_of row))
        → fields ≡ picked_fields taken unit pair (if next then fields_of row else [])
        → picked_left begun at ≡ tidy targets fields ∷ picked_left next (at + 1)
    picked-next begun next at row fields inside is e of_row =
        rw (of_row, e) (picked-more begun at row inside is)

    -- None is left at the end.
    pub picked-end : (begun : Bool) (at : ℕ) → end ≤ at → picked_left begun at ≡ []
    unfolding picked_left
    picked-end begun at past =
        rw (drop_all at named (omega (arith, past, long)))
        (ap (map (picked taken unit targets pair)) (silent-end so begun))

-- What a result says, by what follows from what it said.
pub on-ok : {T E : Type 0} (r : Result T E) (P Q : Type 0) → OnOk r P → (P → Q) → OnOk r Q
on-ok (Ok x) P Q h f = f h
on-ok (Err k) P Q h f = h

pub if-err : {T E : Type 0} (r : Result T E) (P Q : E → Type 0) → IfErr r P
    → ((k : E) → P k → Q k) → IfErr r Q
if-err (Ok x) P Q h f = h
if-err (Err k) P Q h f = f k h

pub if-ok : {T E : Type 0} (r : Result T E) (P Q : T → Type 0) (R : Type 0) → IfOk r P → OnOk r R
    → ((x : T) → P x → R → Q x) → IfOk r Q
if-ok (Ok x) P Q R h k f = f x h k
if-ok (Err e) P Q R h k f = h

-- So many rows were read, none of which has a fault, and these are left; the rows end here.
pub record IsReadTo (unit : AngleUnit) (targets : List (List ℕ)) (pair : ColumnPair)
    (rows : List ByteRecord) (taken : Taken) (stated : List (Option ℤ)) (step number end : ℕ)
    (begun : Bool) : Type 0 where
  pub read : HasReadBy unit targets (column_row_fault unit targets)
      (rows_by_pair unit targets pair (map fields_of rows)) stated step number
      (picked_left taken unit targets pair rows begun number)
  pub ends : end + suffix_len (λ row. not (names_in targets pair.names row)) (map fields_of rows)
      ≡ length rows
  pub long : length stated ≡ length targets
  pub small : step ≤ 90_000_000_000
