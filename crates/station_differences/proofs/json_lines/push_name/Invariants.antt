use Rattle.std.proofs.Common.{◌≡◌, ◌++◌, codes, drop}
use Rattle.std.specs.List.{flat_map}
use Rattle.station_differences.specs.JsonLines.{escaped, json_name}
use Rattle.station_differences.proofs.json_lines.push_name.Given as goal

abbrev pub invariant-loop-byte : goal.invariant-loop-byte
invariant-loop-byte l =
    l.text.items ++ (flat_map escaped (drop l.byte-index l.name) ++ codes "\"")
    ≡ l.fn.text.items ++ json_name l.name
