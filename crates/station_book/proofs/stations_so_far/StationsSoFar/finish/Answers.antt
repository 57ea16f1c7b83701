use Rattle.station_book.proofs.states.NewestState.{last_new_there, all_by_name, joined}
use Rattle.station_book.proofs.stations_so_far.StationsSoFar.finish.Goals as goal

pub push_station-requires-clause-new : goal.push_station-requires-clause-new
push_station-requires-clause-new c =
    last_new_there c.self.inside.last c.self.inside.earlier.entries c.reserve.new.self.entries _
    c.in-Some.ensures.value c.in_ok-reserve.ensures.entries c.self.invariant.1

pub invariant_of-result-2 : goal.invariant_of-result-2
invariant_of-result-2 c =
    all_by_name c.self.inside.last c.self.inside.earlier.entries c.reserve.new.self.entries
    c.push_station.new.stations.entries _ c.in_ok-close.field-0 c.in-Some.ensures.value
    c.in_ok-reserve.ensures.entries c.in_ok-close.ensures.surveyed c.push_station.ensures
    c.self.invariant.0 c.in_ok-close.ensures.named

pub returns : goal.returns
returns c =
    joined c.self.inside.last c.self.inside.earlier.entries c.reserve.new.self.entries
    c.push_station.new.stations.entries _ c.in_ok-close.field-0
    c.args.self c.in-Some.ensures.value c.self.view_is c.in_ok-reserve.ensures.entries
    c.in_ok-close.ensures.surveyed c.push_station.ensures
