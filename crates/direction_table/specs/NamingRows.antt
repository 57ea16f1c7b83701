-- The rows that name targets in a column, in memory.
use Rattle.std.specs.Prelude.{ℕ, List, map}
use Rattle.csv.specs.Records.{fields_of}
use Rattle.direction_table.specs.NumberColumns.{looked_at, numeric_columns, rows_naming}
use Rattle.direction_table.specs.declared.number_columns.Naming.{Naming}

-- All rows of their table.
abbrev pub all_rows : Naming → List (List (List ℕ))
all_rows n = map fields_of n.rows.now

-- Those that name a target.
abbrev pub naming_rows : Naming → List (List (List ℕ))
naming_rows n = rows_naming n.targets.now n.names (all_rows n)

-- The columns that may hold numbers in these.
abbrev pub numeric_of : Naming → List ℕ
numeric_of n = numeric_columns (looked_at (all_rows n)) n.names (naming_rows n)
