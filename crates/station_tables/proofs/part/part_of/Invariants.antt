use Rattle.std.proofs.Common.{◌≡◌, ◌++◌, drop}
use Rattle.station_tables.specs.Lines.{of_lines}
use Rattle.station_tables.specs.Parts.{part_of}
use Rattle.station_tables.proofs.part.part_of.Given as goal

-- What was added, and what is to come.
abbrev pub invariant-lines : goal.invariant-lines
invariant-lines l = l.part.items ++ part_of l.name (drop l.place (of_lines l.lines))
    ≡ part_of l.name (of_lines l.lines)
