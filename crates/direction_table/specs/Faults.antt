-- The faults of the rows of a table, in their order, by the targets and the rows before.
use Rattle.std.specs.Prelude.{◌≡◌, ℕ, Bool, true, false, not, ◌&&◌, if◌then◌else◌, List, [], ◌∷◌}
use Rattle.std.specs.Prelude.{map, Option, Some, None}
use Rattle.std.specs.Option.{option_or}
use Rattle.sheet_format.specs.Faults.{is_name}
use Rattle.sheet_format.specs.RowFaults.{RowRules, fault_at, first_fault, unless}
use Rattle.direction_table.specs.FieldForms.{has_name}
use Rattle.direction_table.specs.Directions.{is_direction, is_on_circle}
use Rattle.direction_table.specs.Rows.{TwoColumns, beside_name, two_columns_of, name_of}
use Rattle.direction_table.specs.Separators.{is_wide}
use Rattle.direction_table.specs.declared.fault.RowKind.{RowKind}
use Rattle.direction_table.specs.declared.fault.RowKind.TheVariants as fault
use Rattle.direction_table.specs.declared.unit.AngleUnit.{AngleUnit}

-- What is wrong with a direction: its form, or its range.
abbrev pub direction_fault : AngleUnit → List ℕ → Option RowKind
direction_fault unit field = first_fault (
    unless (is_direction unit field) fault.Number
    ∷ unless (is_on_circle unit field) fault.Range
    ∷ [])

-- What is wrong with the columns of a row in themselves, in order: the name, the direction, and
-- whether a target has the name.
abbrev pub entry_fault : AngleUnit → List (List ℕ) → TwoColumns → Option RowKind
entry_fault unit targets c = first_fault (
    unless (is_name c.name) fault.Name
    ∷ direction_fault unit c.direction
    ∷ unless (has_name targets c.name) fault.Unknown
    ∷ [])

-- The same, and then whether a row before has the name.
abbrev pub two_columns_fault : AngleUnit → List (List ℕ) → List (List ℕ) → Option TwoColumns
    → Option RowKind
two_columns_fault unit targets earlier None = Some fault.Fields
two_columns_fault unit targets earlier (Some c) =
    option_or (entry_fault unit targets c) (unless (not (has_name earlier c.name)) fault.Twice)

-- Whether no row is before.
abbrev pub is_first : List (List (List ℕ)) → Bool
is_first [] = true
is_first (row ∷ rows) = false

-- Whether a row is one of titles: it has two columns or more, the first of which is no target's
-- name and the second no direction.
abbrev pub are_titles : AngleUnit → List (List ℕ) → List (List ℕ) → Bool
are_titles unit targets row =
    is_wide row
    && (not (has_name targets (name_of row)) && not (is_direction unit (beside_name row)))

-- The fault of a row that is to state a direction, by the targets and the rows before it.
unfoldable pub stating_fault : AngleUnit → List (List ℕ) → List (List (List ℕ)) → List (List ℕ)
    → Option RowKind
stating_fault unit targets before row = two_columns_fault unit targets (map name_of before)
    (two_columns_of row)

-- The fault of a row, if it has one, by the targets and the rows before it: titles in the first row
-- are none.
unfoldable pub table_row_fault : AngleUnit → List (List ℕ) → List (List (List ℕ)) → List (List ℕ)
    → Option RowKind
table_row_fault unit targets before row =
    if is_first before && are_titles unit targets row then None else stating_fault unit targets
    before row

-- What the rows of a table have to keep: each has no fault. The end has none: a target that no row
-- names is looked for after all rows.
abbrev pub table_rules : AngleUnit → List (List ℕ) → RowRules (List (List ℕ)) RowKind
table_rules unit targets = record {
  of_row = table_row_fault unit targets;
  of_end = λ before. None;
}

-- Whether a row of a pair of columns says nothing: it names no target, and has no direction.
abbrev pub says_nothing : AngleUnit → List (List ℕ) → List (List ℕ) → Bool
says_nothing unit targets row =
    not (has_name targets (name_of row)) && not (is_direction unit (beside_name row))

-- The fault of a row of a pair of columns, by the rows before it: one that says nothing has none.
unfoldable pub column_row_fault : AngleUnit → List (List ℕ) → List (List (List ℕ)) → List (List ℕ)
    → Option RowKind
column_row_fault unit targets before row =
    if says_nothing unit targets row then None else stating_fault unit targets before row

-- What the rows of a pair of columns have to keep.
abbrev pub column_rules : AngleUnit → List (List ℕ) → RowRules (List (List ℕ)) RowKind
column_rules unit targets = record {
  of_row = column_row_fault unit targets;
  of_end = λ before. None;
}

-- No place has a fault.
abbrev pub HasNoFault : AngleUnit → List (List ℕ) → List (List (List ℕ)) → Type 0
HasNoFault unit targets rows = (place : ℕ) → fault_at (table_rules unit targets) rows place ≡ None
