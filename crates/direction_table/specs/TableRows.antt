-- The rows of two columns as which a table is read: its own; or where these are no table of the
-- targets, those of the one pair of its columns that fits; or those of the pair that is stated.
use Rattle.std.specs.Prelude.{ℕ, List, [], Option, Some, None, if◌then◌else◌, ⊤}
use Rattle.sheet_format.specs.RowFaults.{RowRules}
use Rattle.direction_table.specs.Faults.{column_rules, table_rules}
use Rattle.direction_table.specs.FoundColumns.{found_way, is_table, rows_by_pair, separator_by}
use Rattle.direction_table.specs.Separators.{rows_by, rows_of}
use Rattle.direction_table.specs.declared.fault.RowKind.{RowKind}
use Rattle.direction_table.specs.declared.form.ColumnPair.{ColumnPair}
use Rattle.direction_table.specs.declared.form.TableForm.{TableForm}
use Rattle.direction_table.specs.declared.unit.AngleUnit.{AngleUnit}
use Rattle.direction_table.specs.declared.way.Way.{Way}
use Rattle.direction_table.specs.declared.way.Way.TheVariants.{TwoColumns, ByColumns, MoreFit}

-- A form of which no columns are stated.
abbrev pub unstated : AngleUnit → TableForm
unstated unit = record { unit = unit; columns = None }

-- How bytes are read where no columns are stated.
abbrev pub unstated_way : AngleUnit → List (List ℕ) → List ℕ → Way
unstated_way unit targets bytes =
    if is_table unit targets (table_rules unit targets) (rows_of targets bytes) then TwoColumns
    else found_way unit targets bytes

-- How bytes are read, where these columns are stated or none.
abbrev pub way_by_columns : AngleUnit → Option ColumnPair → List (List ℕ) → List ℕ → Way
way_by_columns unit None targets bytes = unstated_way unit targets bytes
way_by_columns unit (Some pair) targets bytes =
    ByColumns (separator_by targets pair.names bytes) pair

-- How bytes are read.
unfoldable pub way_of : TableForm → List (List ℕ) → List ℕ → Way
way_of form targets bytes = way_by_columns form.unit form.columns targets bytes

-- The rows that are read in a way.
abbrev pub rows_read : AngleUnit → List (List ℕ) → List ℕ → Way → List (List (List ℕ))
rows_read unit targets bytes TwoColumns = rows_of targets bytes
rows_read unit targets bytes (ByColumns separator pair) =
    rows_by_pair unit targets pair (rows_by separator bytes)
rows_read unit targets bytes (MoreFit first second) = []

-- What they have to keep.
abbrev pub rules_read : AngleUnit → List (List ℕ) → Way → RowRules (List (List ℕ)) RowKind
rules_read unit targets TwoColumns = table_rules unit targets
rules_read unit targets (ByColumns separator pair) = column_rules unit targets
rules_read unit targets (MoreFit first second) = column_rules unit targets

-- One pair of columns is read.
abbrev pub IsOneWay : Way → Type 0
IsOneWay TwoColumns = ⊤
IsOneWay (ByColumns separator pair) = ⊤
IsOneWay (MoreFit first second) = ⊥

-- The rows of a table.
abbrev pub table_rows : TableForm → List (List ℕ) → List ℕ → List (List (List ℕ))
table_rows form targets bytes =
    rows_read form.unit targets bytes (way_of form targets bytes)
