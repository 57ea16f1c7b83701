use Rattle.std.proofs.Common.{rules}
use Rattle.set_marks.proofs.EndedStations.{open_ended}
use Rattle.set_marks.proofs.readings.Readings.mark_station.Goals as goal

pub returns-clause-ends : goal.returns-clause-ends
returns-clause-ends c =
    open_ended c.args.self.now c.take.new.self c.in-Some.name
    c.deref.result.now (search rules) (search rules) c.in_ok-take.ensures.takes
