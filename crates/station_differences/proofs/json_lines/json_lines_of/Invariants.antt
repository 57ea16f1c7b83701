use Rattle.std.proofs.Common.{◌≡◌, ◌++◌, drop}
use Rattle.std.specs.List.{flat_map}
use Rattle.station_differences.specs.JsonLines.{json_line}
use Rattle.station_differences.proofs.json_lines.json_lines_of.Given as goal

abbrev pub invariant-loop-line : goal.invariant-loop-line
invariant-loop-line l =
    l.text.items ++ flat_map (json_line l.short l.median) (drop l.line-index l.lines)
    ≡ flat_map (json_line l.short l.median) l.lines
