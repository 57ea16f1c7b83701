use Rattle.std.proofs.Common.{◌≡◌, ◌≤◌, ◌+◌, drop}
use Rattle.station_tables.specs.Strays.{of_how_many}
use Rattle.station_tables.proofs.stray.of_how_many.Given as goal

-- Those so far and those to come are all.
abbrev pub invariant-stations : goal.invariant-stations
invariant-stations l = record {
  all : l.count + of_how_many (drop l.place l.stations) l.line ≡ of_how_many l.stations l.line;
  few : l.count ≤ l.place;
}
