use Rattle.std.proofs.Common.{◌≡◌}
use Rattle.direction_table.specs.NamingRows.{naming_rows}
use Rattle.direction_table.specs.NumberColumns as spec
use Rattle.direction_table.proofs.RowsLeft.{naming_from}
use Rattle.direction_table.proofs.number_columns.Naming.have_directions.Given as goal

abbrev pub invariant-loop-row : goal.invariant-loop-row
invariant-loop-row l =
    spec.have_directions l.taken l.unit (naming_from l.self l.row-index) l.column
    ≡ spec.have_directions l.taken l.unit (naming_rows l.self) l.column
