use Rattle.std.proofs.Common.{◌≡◌}
use Rattle.direction_table.specs.NamingRows.{naming_rows}
use Rattle.std.specs.List.{list_any}
use Rattle.direction_table.specs.Cells.{cell, may_be_number}
use Rattle.direction_table.proofs.RowsLeft.{naming_from}
use Rattle.direction_table.proofs.number_columns.Naming.has_number.Given as goal

abbrev pub invariant-loop-row : goal.invariant-loop-row
invariant-loop-row l =
    list_any (λ row. may_be_number (cell l.column row)) (naming_from l.self l.row-index)
    ≡ list_any (λ row. may_be_number (cell l.column row)) (naming_rows l.self)
