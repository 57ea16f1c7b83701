use Rattle.station_mark.proofs.Joined.{two_joined}
use Rattle.station_mark.proofs.notes.add_opening.Goals as goal

pub returns : goal.returns
returns c = two_joined _ _ _ _ _
    (rw c.bytes.ensures.value at c.in_ok-extend_from_slice.ensures.items)
    c.in_ok-extend_from_slice-2.ensures.items
