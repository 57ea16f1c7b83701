-- The names of faults, as the line of a refusal has them (profile).
use Rattle.std.specs.Prelude.{ℕ, List, codes}
use Rattle.direction_table.specs.declared.fault.RowKind.{RowKind}
use Rattle.direction_table.specs.declared.fault.RowKind.TheVariants as row
use Rattle.direction_table.specs.declared.fault.TableFault.{TableFault}
use Rattle.direction_table.specs.declared.fault.TableFault.TheVariants.{TooLong, Columns, Row}
use Rattle.direction_table.specs.declared.fault.TableFault.TheVariants.{Missing, Memory}

-- The name of a fault of a row.
abbrev pub table_row_kind_name : RowKind → List ℕ
table_row_kind_name row.Fields = codes "Fields"
table_row_kind_name row.Name = codes "Name"
table_row_kind_name row.Number = codes "Number"
table_row_kind_name row.Range = codes "Range"
table_row_kind_name row.Unknown = codes "Unknown"
table_row_kind_name row.Twice = codes "Twice"

-- The name of a fault of the table, or of its row, or that memory ran out.
abbrev pub table_fault_name : TableFault → List ℕ
table_fault_name TooLong = codes "TooLong"
table_fault_name (Columns first second) = codes "Columns"
table_fault_name (Row number kind) = table_row_kind_name kind
table_fault_name (Missing target) = codes "Missing"
table_fault_name Memory = codes "out of memory"
