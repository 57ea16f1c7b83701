use Rattle.std.proofs.Common.{◌≡◌, ◌≤◌, ◌+◌, length}
use Rattle.direction_table.specs.ByteSteps.{records_left}
use Rattle.direction_table.specs.Separators.{rows_of}
use Rattle.direction_table.proofs.RowsRead.{HasRead, rows_left}
use Rattle.direction_table.proofs.reading.read_rows.Given as goal

abbrev pub invariant-rows : goal.invariant-rows
invariant-rows l = HasRead l.fn.unit l.targets (rows_of l.targets l.fn.bytes) l.directions.items
    l.finest_step l.number (rows_left l.separator l.targets (records_left l.records))
    × (l.number + length l.records.unread.now ≤ length l.fn.bytes)
    × (length l.directions.items ≡ length l.targets)
    × (l.finest_step ≤ 90_000_000_000)

abbrev pub decreases-rows : goal.decreases-rows
decreases-rows l = length l.records.unread.now
