use Rattle.std.proofs.Common.{◌≡◌, ◌++◌, [], length}
use Rattle.station_mark.specs.Notes.{stations_text}
use Rattle.station_mark.proofs.notes.add_stations.Given as goal

abbrev pub invariant-stations : goal.invariant-stations
invariant-stations l =
    l.text.items ++ stations_text l.names l.left
    ≡ l.fn.text.items ++ stations_text [] l.stations

abbrev pub decreases-stations : goal.decreases-stations
decreases-stations l = length l.left
