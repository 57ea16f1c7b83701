use Rattle.std.proofs.Common.{◌≡◌}
use Rattle.direction_table.specs.FoundColumns.{names_no_other}
use Rattle.direction_table.specs.NamingRows.{all_rows}
use Rattle.direction_table.proofs.RowsLeft.{rows_from}
use Rattle.direction_table.proofs.number_columns.Naming.names_no_other.Given as goal

abbrev pub invariant-loop-row : goal.invariant-loop-row
invariant-loop-row l =
    names_no_other l.self.targets.now l.self.names (rows_from l.self.rows.now l.row-index)
    ≡ names_no_other l.self.targets.now l.self.names (all_rows l.self)
