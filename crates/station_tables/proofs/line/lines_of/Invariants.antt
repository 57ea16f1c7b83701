use Rattle.std.proofs.Common.{◌≡◌, ◌-◌, ◌≤◌, ◌++◌, drop, length, take}
use Rattle.station_tables.specs.Lines.{begun, lines_in, of_lines}
use Rattle.station_tables.proofs.line.lines_of.Given as goal

-- The lines so far, and those to come, of which the first has begun.
abbrev pub invariant-bytes : goal.invariant-bytes
invariant-bytes l = record {
  whole : of_lines l.lines.items
      ++ begun (take (l.place - l.start) (drop l.start l.text)) (lines_in (drop l.place l.text))
      ≡ lines_in l.text;
  begins : l.start ≤ l.place;
  few : length l.lines.items ≤ l.start;
}
