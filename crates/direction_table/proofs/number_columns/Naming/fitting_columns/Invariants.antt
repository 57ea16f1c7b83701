use Rattle.std.proofs.Common.{◌≡◌, take}
use Rattle.direction_table.specs.NamingRows.{naming_rows}
use Rattle.direction_table.specs.NumberColumns as spec
use Rattle.direction_table.proofs.number_columns.Naming.fitting_columns.Given as goal

abbrev pub invariant-loop-column : goal.invariant-loop-column
invariant-loop-column l = l.columns.items
    ≡ spec.fitting_columns l.unit (naming_rows l.self) (take l.column-index l.numeric)
