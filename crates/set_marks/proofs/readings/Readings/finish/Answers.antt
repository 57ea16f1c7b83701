use Rattle.set_marks.proofs.EndedStations.{all_marked, are_marked}
use Rattle.set_marks.proofs.readings.Readings.finish.Goals as goal

pub returns-clause-marked : goal.returns-clause-marked
returns-clause-marked c = λ station stated h kept.
    are_marked stated _ _ c.end_station.new.self.marking
    (all_marked station stated h c.args.self c.end_station.new.self kept
    c.in_ok-end_station.ensures.ends)
