use Rattle.std.proofs.Common.{◌≡◌}
use Rattle.direction_table.specs.NamingRows.{naming_rows}
use Rattle.direction_table.specs.NumberColumns as spec
use Rattle.direction_table.proofs.number_columns.Naming.numeric_columns.Given as goal

abbrev pub invariant-loop-column : goal.invariant-loop-column
invariant-loop-column l = l.columns.items
    ≡ spec.numeric_columns (spec.columns_below l.column) l.self.names (naming_rows l.self)
