use Rattle.station_mark.proofs.Joined.{three_joined}
use Rattle.station_mark.proofs.notes.add_head.Goals as goal

pub returns : goal.returns
returns c = three_joined _ _ _ _ _ _ _ c.in_ok-extend_from_slice.ensures.items
    (rw c.bytes.ensures.value at c.in_ok-extend_from_slice-2.ensures.items)
    c.in_ok-extend_from_slice-3.ensures.items
