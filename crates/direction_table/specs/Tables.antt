-- A table of directions: a row for each target, with its name and its direction, in any order.
use Rattle.std.specs.Prelude.{◌≡◌, ◌≢◌, ◌⊎◌, ℕ, ◌≤◌, ◌<◌, ◌+◌, List, length, map, slice_index_or, ℤ}
use Rattle.std.specs.Prelude.{Option, Some, None}
use Rattle.adjust_kernel.specs.Firsts.{IsFirstWhere}
use Rattle.sheet_format.specs.RowFaults.{IsFirstFault, fault_at}
use Rattle.direction_table.specs.Rows.{direction_in}
use Rattle.direction_table.specs.TableRows.{IsOneWay, rules_read, table_rows, way_of}
use Rattle.direction_table.specs.declared.fault.TableFault.{TableFault}
use Rattle.direction_table.specs.declared.fault.TableFault.TheVariants.{TooLong, Columns, Row}
use Rattle.direction_table.specs.declared.fault.TableFault.TheVariants.{Missing, Memory}
use Rattle.direction_table.specs.declared.form.TableForm.{TableForm}
use Rattle.direction_table.specs.declared.reading.TheConstants.{LONGEST_TABLE}
use Rattle.direction_table.specs.declared.unit.AngleUnit.{AngleUnit}
use Rattle.direction_table.specs.declared.way.Way.TheVariants.{MoreFit}

-- What these rows state of each of the targets, in a unit: a direction, or none.
abbrev pub stated_by : AngleUnit → List (List (List ℕ)) → List (List ℕ) → List (Option ℤ)
stated_by unit rows targets = map (direction_in unit rows) targets

-- No row as which the bytes are read has a fault.
abbrev pub HasNoRowFault : TableForm → List (List ℕ) → List ℕ → Type 0
HasNoRowFault form targets bytes =
    (place : ℕ) → fault_at (rules_read form.unit targets (way_of form targets bytes))
    (table_rows form targets bytes) place ≡ None

-- What the rows state of each target.
abbrev pub stated_in_table : TableForm → List (List ℕ) → List ℕ → List (Option ℤ)
stated_in_table form targets bytes = stated_by form.unit (table_rows form targets bytes) targets

-- Bytes are a table, in this form, of a part of these targets: they are not too many, one pair of
-- columns is read, no row has a fault, and of each target a row states this direction, in parts, 81
-- of which are 0.000000001 gon, or none does.
pub record IsPartText (form : TableForm) (targets : List (List ℕ)) (bytes : List ℕ)
    (directions : List (Option ℤ)) : Type 0 where
  pub short : length bytes ≤ LONGEST_TABLE
  pub one_way : IsOneWay (way_of form targets bytes)
  pub faultless : HasNoRowFault form targets bytes
  pub stated : stated_in_table form targets bytes ≡ directions

-- Bytes are a table of these targets and directions: of each target a row states its direction.
abbrev pub IsTableText : TableForm → List (List ℕ) → List ℕ → List ℤ → Type 0
IsTableText form targets bytes directions = IsPartText form targets bytes (map Some directions)

-- No direction is stated at this place.
abbrev pub IsNoneAt : List (Option ℤ) → ℕ → Type 0
IsNoneAt stated place = slice_index_or stated place None ≡ None

-- This is the first place, from 1, at which no direction is stated.
abbrev pub IsFirstMissing : List (Option ℤ) → ℕ → Type 0
IsFirstMissing stated number =
    (place : ℕ) × (number ≡ place + 1) × IsFirstWhere (IsNoneAt stated) (length stated) place

-- The fault of a table's bytes: too many of them; else the first two columns of several that fit,
-- from 1; else the first row with a fault, from 1; else the first target of which there is no row,
-- from 1. That memory ran out is no fault of the bytes.
abbrev pub IsTableFault : TableForm → List (List ℕ) → List ℕ → TableFault → Type 0
IsTableFault form targets bytes TooLong = LONGEST_TABLE < length bytes
IsTableFault form targets bytes (Columns first second) =
    (length bytes ≤ LONGEST_TABLE) × (a : ℕ) × (b : ℕ) × (first ≡ a + 1) × (second ≡ b + 1)
    × (way_of form targets bytes ≡ MoreFit a b)
IsTableFault form targets bytes (Row number kind) =
    (length bytes ≤ LONGEST_TABLE) × (place : ℕ) × (number ≡ place + 1)
    × IsFirstFault (rules_read form.unit targets (way_of form targets bytes))
    (table_rows form targets bytes) place kind
IsTableFault form targets bytes (Missing number) =
    (length bytes ≤ LONGEST_TABLE) × IsOneWay (way_of form targets bytes)
    × HasNoRowFault form targets bytes
    × IsFirstMissing (stated_in_table form targets bytes) number
IsTableFault form targets bytes Memory = ⊥

-- A refusal is the fault of the bytes, or memory ran out.
abbrev pub IsTableFaultOrMemory : TableForm → List (List ℕ) → List ℕ → TableFault → Type 0
IsTableFaultOrMemory form targets bytes fault =
    IsTableFault form targets bytes fault ⊎ (fault ≡ Memory)

-- A refusal names the first place at which no direction is stated, or memory ran out.
abbrev pub IsMissingOrMemory : List (Option ℤ) → TableFault → Type 0
IsMissingOrMemory stated fault =
    ((number : ℕ) × (fault ≡ Missing number) × IsFirstMissing stated number) ⊎ (fault ≡ Memory)

-- A refusal where rows may lack: it names no missing target.
abbrev pub IsPartFaultOrMemory : TableForm → List (List ℕ) → List ℕ → TableFault → Type 0
IsPartFaultOrMemory form targets bytes fault =
    IsTableFaultOrMemory form targets bytes fault × ((number : ℕ) → fault ≢ Missing number)
