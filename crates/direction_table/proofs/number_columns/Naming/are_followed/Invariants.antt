use Rattle.std.proofs.Common.{◌≡◌}
use Rattle.direction_table.specs.FoundColumns.{are_followed}
use Rattle.direction_table.specs.NamingRows.{naming_rows}
use Rattle.direction_table.proofs.RowsLeft.{naming_from}
use Rattle.direction_table.proofs.number_columns.Naming.are_followed.Given as goal

abbrev pub invariant-loop-row : goal.invariant-loop-row
invariant-loop-row l = are_followed l.unit l.after (naming_from l.self l.row-index)
    ≡ are_followed l.unit l.after (naming_rows l.self)
