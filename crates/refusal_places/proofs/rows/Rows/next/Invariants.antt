use Rattle.std.proofs.Common.{◌≡◌, ◌<◌, ◌≤◌, drop, true}
use Rattle.csv.specs.Machine.{ends_at_end}
use Rattle.refusal_places.specs.RowsLeft.{spans_left}
use Rattle.refusal_places.specs.Rows.{spans_from}
use Rattle.row_forms.specs.ByteSteps.{config_with, state_of}
use Rattle.refusal_places.proofs.rows.Rows.next.Given as goal

abbrev pub invariant-loop-at : goal.invariant-loop-at
invariant-loop-at l =
    (spans_left l.fn.self ≡ spans_from (config_with l.self.separator) (state_of l.place) l.first l.at
    (drop l.at l.self.bytes.now))
    × (l.self ≡ l.fn.self)
    × (l.first ≤ l.at)
    × (l.self.at ≤ l.at)
    × (ends_at_end (state_of l.place) ≡ true → l.self.at < l.at)
