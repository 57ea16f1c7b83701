-- The names of faults, as the line of a refusal has them (profile).
use Rattle.std.specs.Prelude.{ℕ, List, codes}
use Rattle.sheet_format.specs.declared.fault.RowKind.{RowKind}
use Rattle.sheet_format.specs.declared.fault.RowKind.TheVariants as row
use Rattle.sheet_format.specs.declared.fault.SheetFault.{SheetFault}
use Rattle.sheet_format.specs.declared.fault.SheetFault.TheVariants.{TooLong, Row, Memory}

-- The name of a fault of a row
abbrev pub row_kind_name : RowKind → List ℕ
row_kind_name row.Fields = codes "Fields"
row_kind_name row.Kind = codes "Kind"
row_kind_name row.Version = codes "Version"
row_kind_name row.NotEmpty = codes "NotEmpty"
row_kind_name row.Name = codes "Name"
row_kind_name row.Number = codes "Number"
row_kind_name row.Range = codes "Range"
row_kind_name row.TooMany = codes "TooMany"
row_kind_name row.Unfinished = codes "Unfinished"

-- The name of a fault of the sheet, or of its row, or that memory ran out
abbrev pub sheet_fault_name : SheetFault → List ℕ
sheet_fault_name TooLong = codes "TooLong"
sheet_fault_name (Row number kind) = row_kind_name kind
sheet_fault_name Memory = codes "out of memory"
