use Rattle.station_check.proofs.Partway.{some_got_of}
use Rattle.station_mark.proofs.copy.write_copy.Goals as goal

pub returns-clause-cut_short : goal.returns-clause-cut_short
returns-clause-cut_short g c =
    some_got_of c.write_whole.result _ _ _ _ _ _
    (rw c.new-page.ensures at c.in_ok-print_copy.ensures.ok) c.bytes.ensures.value
    c.write_whole.ensures.cut_short
