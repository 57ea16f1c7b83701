use Rattle.std.specs.List.{list_all}
use Rattle.std.proofs.Common.{◌≡◌}
use Rattle.direction_table.specs.NamingRows.{naming_rows}
use Rattle.direction_table.specs.TakenCells.{begins_what_goes_on}
use Rattle.direction_table.proofs.RowsLeft.{naming_from}
use Rattle.direction_table.proofs.number_columns.Naming.only_beginnings_go_on.Given as goal

abbrev pub invariant-loop-row : goal.invariant-loop-row
invariant-loop-row l =
    list_all (begins_what_goes_on l.unit l.column) (naming_from l.self l.row-index)
    ≡ list_all (begins_what_goes_on l.unit l.column) (naming_rows l.self)
