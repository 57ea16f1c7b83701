use Rattle.std.proofs.Common.{◌≡◌, ◌++◌, [], length}
use Rattle.station_mark.specs.ToldRows.{stations_rows, told_titles}
use Rattle.station_mark.proofs.rows.told_rows.Given as goal

abbrev pub invariant-stations : goal.invariant-stations
invariant-stations l =
    l.text.items ++ stations_rows l.names l.left ≡ told_titles ++ stations_rows [] l.stations

abbrev pub decreases-stations : goal.decreases-stations
decreases-stations l = length l.left
