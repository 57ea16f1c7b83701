use Rattle.std.proofs.Common.{◌≡◌, ◌≤◌, ◌+◌, map}
use Rattle.csv.specs.Records.{fields_of}
use Rattle.direction_table.specs.TableNotes as spec
use Rattle.direction_table.proofs.RowsLeft.{rows_from}
use Rattle.direction_table.proofs.note.count_units.Given as goal

abbrev pub invariant-loop-row : goal.invariant-loop-row
invariant-loop-row l =
    (l.count + spec.units_passed l.unit l.targets l.pair (rows_from l.rows l.row-index)
    ≡ spec.units_passed l.unit l.targets l.pair (map fields_of l.rows))
    × (l.count ≤ l.row-index)
