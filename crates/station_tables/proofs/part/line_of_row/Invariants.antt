use Rattle.std.proofs.Common.{◌≡◌, ◌+◌, ◌-◌, drop}
use Rattle.std.specs.Prelude.{slice_index_or}
use Rattle.station_tables.specs.Lines.{of_lines}
use Rattle.station_tables.specs.Parts.{row_numbers}
use Rattle.station_tables.proofs.part.line_of_row.Given as goal

-- The row is, of those that come, the one with so many before it.
abbrev pub invariant-lines : goal.invariant-lines
invariant-lines l =
    slice_index_or (row_numbers l.name (l.place + 1) (drop l.place (of_lines l.lines))) l.before 0
    ≡ slice_index_or (row_numbers l.name 1 (of_lines l.lines)) (l.row - 1) 0
