use Rattle.std.proofs.Common.{◌≡◌, ◌++◌}
use Rattle.station_report.specs.Columns.{each_place}
use Rattle.station_report.proofs.lines.push_lines.Given as goal

abbrev pub invariant-loop-place : goal.invariant-loop-place
invariant-loop-place g l =
    l.text.items ≡ l.fn.text.items ++ each_place l.place (g.L.Lines.line l.lines)
