use Rattle.std.proofs.Common.{◌≡◌, ◌+◌, drop}
use Rattle.station_tables.specs.Lines.{of_lines}
use Rattle.station_tables.specs.Strays.{first_stray, stray_from}
use Rattle.station_tables.proofs.stray.first_stray.Given as goal

-- The first is the first of those that come.
abbrev pub invariant-lines : goal.invariant-lines
invariant-lines l =
    stray_from l.stations (l.place + 1) (drop l.place (of_lines l.lines))
    ≡ first_stray l.stations (of_lines l.lines)
