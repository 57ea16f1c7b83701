-- The faults of a sheet: of a row by the rows before it, and the first of all.
use Rattle.std.specs.Prelude.{◌≡◌, ℕ, ◌+◌, ◌<◌, ◌≤◌, Bool, ◌&&◌, ◌==◌, nat_lt, nat_le, List, []}
use Rattle.std.specs.Prelude.{◌∷◌, length, ℤ, pos, Option, Some, None, unwrap_or, option_and_then}
use Rattle.std.specs.Prelude.{◌-◌, ◌⊎◌}
use Rattle.std.specs.Int.{is_in_range}
use Rattle.std.specs.List.{count_by, last_or, list_all}
use Rattle.std.specs.Option.{option_map_or, option_or}
use Rattle.adjust_kernel.specs.declared.bounds.TheConstants.{LARGEST_SET_NUMBER, LARGEST_TURN}
use Rattle.adjust_kernel.specs.declared.bounds.TheConstants.{LONGEST_NAME, MOST_ROWS, MOST_SETS}
use Rattle.adjust_kernel.specs.declared.bounds.TheConstants.{MOST_TARGETS, TURN}
use Rattle.adjust_kernel.specs.declared.name.TheConstants.{FIRST_PRINTABLE, LAST_PRINTABLE}
use Rattle.sheet_format.specs.Columns.{Fields, columns_of}
use Rattle.sheet_format.specs.RowFaults.{IsFirstFault, RowRules, first_fault, unless}
use Rattle.sheet_format.specs.RowTypes.{row_type_of, may_end, may_follow, names_row_type}
use Rattle.sheet_format.specs.Numbers.{is_at_most, is_canonical, is_within, value_of}
use Rattle.sheet_format.specs.Rows.{records_of}
use Rattle.sheet_format.specs.Versions.{largest_angle, largest_denominator, version_of}
use Rattle.sheet_format.specs.declared.fault.RowKind.{RowKind}
use Rattle.sheet_format.specs.declared.fault.RowKind.TheVariants as fault
use Rattle.sheet_format.specs.declared.fault.SheetFault.{SheetFault}
use Rattle.sheet_format.specs.declared.fault.SheetFault.TheVariants.{TooLong, Row, Memory}
use Rattle.sheet_format.specs.declared.row_type.RowType.{RowType}
use Rattle.sheet_format.specs.declared.row_type.RowType.TheVariants as row_type
use Rattle.sheet_format.specs.declared.reading.TheConstants.{LONGEST_SHEET}
use Rattle.sheet_format.specs.declared.version.Version.{Version}
use Rattle.sheet_format.specs.declared.version.Version.TheVariants as version

-- whether a field has no byte
abbrev pub is_empty : List ℕ → Bool
is_empty field = length field == 0

-- whether a field is a name: 1 to 16 bytes, each from the blank to the tilde
abbrev pub is_name : List ℕ → Bool
is_name field = (nat_le 1 (length field) && nat_le (length field) LONGEST_NAME)
    && list_all (λ b. is_in_range FIRST_PRINTABLE LAST_PRINTABLE b) field

-- whether a number may be that of a set
abbrev pub is_set_number : ℤ → Bool
is_set_number number = is_within (pos 1) (pos LARGEST_SET_NUMBER) number

-- whether a number is a direction on the circle
abbrev pub is_circle_value : ℤ → Bool
is_circle_value number = is_within (pos 0) (pos (TURN - 1)) number

-- The tests of a row's columns, in order: the columns that are to be empty, the name, the form of
-- all its numbers, and then their ranges.

-- the first row, of this version
abbrev pub versioned_fault : Version → Fields → Option RowKind
versioned_fault v c = first_fault (
    unless (is_empty c.turn) fault.NotEmpty
    ∷ unless (is_name c.name) fault.Name
    ∷ unless (is_canonical c.value) fault.Number
    ∷ unless (is_within (pos 1) (pos (largest_denominator v)) (value_of c.value)) fault.Range
    ∷ [])

-- the first row: it names no version, or has a fault of the version that it names
abbrev pub sheet_row_fault : Fields → Option RowKind
sheet_row_fault c =
    option_map_or (λ v. versioned_fault v c) (version_of c.number) (Some fault.Version)

-- the row of a target
abbrev pub target_fault : Version → Fields → Option RowKind
target_fault v c = first_fault (
    unless (is_empty c.number && is_empty c.turn) fault.NotEmpty
    ∷ unless (is_name c.name) fault.Name
    ∷ unless (is_canonical c.value) fault.Number
    ∷ unless (is_at_most (largest_angle v) (value_of c.value)) fault.Range
    ∷ [])

-- the row of a set
abbrev pub set_fault : Version → Fields → Option RowKind
set_fault v c = first_fault (
    unless (is_empty c.name && is_empty c.turn) fault.NotEmpty
    ∷ unless (is_canonical c.number && is_canonical c.value) fault.Number
    ∷ unless (is_set_number (value_of c.number) && is_at_most (largest_angle v) (value_of c.value))
    fault.Range
    ∷ [])

-- the row of an observation
abbrev pub obs_fault : Fields → Option RowKind
obs_fault c = first_fault (
    unless (is_name c.name) fault.Name
    ∷ unless (is_canonical c.number && is_canonical c.value && is_canonical c.turn) fault.Number
    ∷ unless (is_set_number (value_of c.number) && is_circle_value (value_of c.value)
    && is_at_most LARGEST_TURN (value_of c.turn)) fault.Range
    ∷ [])

-- what the rows before a row say of it: the type of the last of them, the version of the sheet, and
-- how many of each type they are
pub record Before : Type 0 where
  pub last : Option RowType
  pub version : Version
  pub targets : ℕ
  pub sets : ℕ
  pub obs : ℕ

-- the first field of a row
abbrev pub first_field : List (List ℕ) → List ℕ
first_field [] = []
first_field (field ∷ others) = field

-- the type of the last of these rows, if there is one and it names one
abbrev pub last_row_type : List (List (List ℕ)) → Option RowType
last_row_type rows = option_and_then (λ row. row_type_of (first_field row)) (last_or None rows)

-- the version that the first of these rows names; where it names none, that row has a fault, which
-- comes before any that the version given here could matter to
abbrev pub version_of_row : Option Fields → Version
version_of_row None = version.One
version_of_row (Some c) = unwrap_or (version_of c.number) version.One

-- the version that these rows are read by: that of the first of them
abbrev pub version_of_rows : List (List (List ℕ)) → Version
version_of_rows [] = version.One
version_of_rows (first ∷ others) = version_of_row (columns_of first)

-- how many of these rows are of a type
abbrev pub count_of : RowType → List (List (List ℕ)) → ℕ
count_of k rows = count_by (λ row. names_row_type k (first_field row)) rows

-- what these rows say of one after them
abbrev pub said_by : List (List (List ℕ)) → Before
said_by rows = record {
  last = last_row_type rows;
  version = version_of_rows rows;
  targets = count_of row_type.Target rows;
  sets = count_of row_type.Set rows;
  obs = count_of row_type.Obs rows;
}

-- the fault of the columns of a row of this type, and then too many of its type
abbrev pub columns_fault : Before → RowType → Fields → Option RowKind
columns_fault b row_type.Sheet c = sheet_row_fault c
columns_fault b row_type.Target c =
    option_or (target_fault b.version c) (unless (nat_lt b.targets MOST_TARGETS) fault.TooMany)
columns_fault b row_type.Set c =
    option_or (set_fault b.version c) (unless (nat_lt b.sets MOST_SETS) fault.TooMany)
columns_fault b row_type.Obs c =
    option_or (obs_fault c) (unless (nat_lt b.obs MOST_ROWS) fault.TooMany)

-- the fault of a row of five columns: its type is none or may not stand there, and then its columns
abbrev pub row_type_fault : Before → Option RowType → Fields → Option RowKind
row_type_fault b None c = Some fault.Kind
row_type_fault b (Some k) c =
    option_or (unless (may_follow b.last k) fault.Kind) (columns_fault b k c)

-- the fault of a row by the number of its columns, and then by what they hold
abbrev pub fields_fault : Before → Option Fields → Option RowKind
fields_fault b None = Some fault.Fields
fields_fault b (Some c) = row_type_fault b (row_type_of c.row_type) c

-- the fault of a row, if it has one, by what the rows before it say: the number of its columns, its
-- type, and then its columns
unfoldable pub row_fault : Before → List (List ℕ) → Option RowKind
row_fault b row = fields_fault b (columns_of row)

-- what the rows of a sheet have to keep: each has no fault, and the last is that of an observation
abbrev pub sheet_rules : RowRules (List (List ℕ)) RowKind
sheet_rules = record {
  of_row = λ before row. row_fault (said_by before) row;
  of_end = λ before. unless (may_end (last_row_type before)) fault.Unfinished;
}

-- The fault of a sheet's bytes: too many of them; else the first row with a fault, counted from 1,
-- where the row after the last is `Unfinished` if no observation was the last. That memory ran out
-- is no fault of the bytes.
abbrev pub IsSheetFault : List ℕ → SheetFault → Type 0
IsSheetFault bytes TooLong = LONGEST_SHEET < length bytes
IsSheetFault bytes (Row number kind) =
    (length bytes ≤ LONGEST_SHEET) × (place : ℕ) × (number ≡ place + 1)
    × IsFirstFault sheet_rules (records_of bytes) place kind
IsSheetFault bytes Memory = ⊥

-- A refusal is the fault of the bytes, or that memory ran out.
abbrev pub IsSheetFaultOrMemory : List ℕ → SheetFault → Type 0
IsSheetFaultOrMemory bytes fault = IsSheetFault bytes fault ⊎ (fault ≡ Memory)
