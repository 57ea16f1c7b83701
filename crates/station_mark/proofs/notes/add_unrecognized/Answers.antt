use Rattle.station_mark.proofs.Joined.{four_joined}
use Rattle.station_mark.proofs.notes.add_unrecognized.Goals as goal

pub returns : goal.returns
returns c = four_joined _ _ _ _ _ _ _ _ _ c.in_ok-extend_from_slice.ensures.items
    c.in_ok-add_flaw.ensures c.in_ok-extend_from_slice-2.ensures.items
    c.in_ok-add_left_outside.ensures
