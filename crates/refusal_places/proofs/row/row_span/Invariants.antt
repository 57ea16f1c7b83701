use Rattle.std.proofs.Common.{◌≡◌, ◌-◌, slice_get}
use Rattle.refusal_places.specs.RowsLeft.{spans_left}
use Rattle.refusal_places.specs.Rows.{row_spans}
use Rattle.refusal_places.proofs.row.row_span.Given as goal

abbrev pub invariant-rows : goal.invariant-rows
invariant-rows l = slice_get (row_spans l.separator l.bytes) (l.number - 1)
    ≡ slice_get (spans_left l.rows) l.before

abbrev pub decreases-rows : goal.decreases-rows
decreases-rows l = l.before
