use Rattle.station_check.proofs.Partway.{in_any_case, some_of_all}
use Rattle.station_check.proofs.whole_text.write_whole.Goals as goal

pub returns-clause-cut_short : goal.returns-clause-cut_short
returns-clause-cut_short g c =
    in_any_case c.flush.result
    (some_of_all _ _ _ c.args.text.now c.in_ok-write_all.ensures.ok c.flush.ensures.holds)
