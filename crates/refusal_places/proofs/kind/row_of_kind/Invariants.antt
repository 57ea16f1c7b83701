use Rattle.std.proofs.Common.{◌≡◌, ◌+◌, ◌-◌, ◌≤◌, length, slice_get}
use Rattle.refusal_places.specs.Kinds.{numbered_from, of_kind}
use Rattle.refusal_places.specs.Rows.{row_spans}
use Rattle.refusal_places.specs.RowsLeft.{spans_left}
use Rattle.refusal_places.specs.declared.row.TheConstants.{COMMA}
use Rattle.refusal_places.proofs.kind.row_of_kind.Given as goal

abbrev pub invariant-rows : goal.invariant-rows
invariant-rows l =
    (slice_get (of_kind l.kind l.sheet (numbered_from 1 (row_spans COMMA l.sheet))) (l.number - 1)
    ≡ slice_get (of_kind l.kind l.sheet (numbered_from l.row (spans_left l.rows))) l.before)
    × (l.rows.bytes.now ≡ l.sheet)
    × (l.row ≤ l.rows.at + 1)

abbrev pub decreases-rows : goal.decreases-rows
decreases-rows l = length l.sheet - l.rows.at
