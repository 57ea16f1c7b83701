use Rattle.std.proofs.Common.{◌≡◌, ◌≤◌, ◌+◌}
use Rattle.direction_table.specs.NamingRows.{naming_rows}
use Rattle.direction_table.specs.NumberColumns as spec
use Rattle.direction_table.proofs.RowsLeft.{naming_from}
use Rattle.direction_table.proofs.number_columns.Naming.counts_from.Given as goal

abbrev pub invariant-loop-row : goal.invariant-loop-row
invariant-loop-row l = (spec.counts_from l.number l.column (naming_from l.self l.row-index)
    ≡ spec.counts_from l.first l.column (naming_rows l.self))
    × (l.number ≤ l.first + l.row-index)
