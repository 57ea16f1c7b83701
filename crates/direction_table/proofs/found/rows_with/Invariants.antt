use Rattle.std.proofs.Common.{◌≡◌, ◌≤◌, ◌+◌, ◌++◌, length, map}
use Rattle.csv.specs.Records.{fields_of}
use Rattle.direction_table.specs.ByteSteps.{records_left}
use Rattle.direction_table.specs.Separators as spec
use Rattle.direction_table.proofs.found.rows_with.Given as goal

abbrev pub invariant-rows : goal.invariant-rows
invariant-rows l =
    (map fields_of l.rows.items ++ map (spec.kept l.separator) (records_left l.records)
    ≡ spec.rows_by l.separator l.bytes)
    × (length l.rows.items + length l.records.unread.now ≤ length l.bytes)

abbrev pub decreases-rows : goal.decreases-rows
decreases-rows l = length l.records.unread.now
