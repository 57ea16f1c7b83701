use Rattle.station_mark.proofs.Joined.{two_joined}
use Rattle.station_mark.proofs.notes.add_next.Goals as goal

pub returns : goal.returns
returns c =
    two_joined _ _ _ _ _ c.in_ok-add_read.ensures c.in_ok-add_written_again.ensures
