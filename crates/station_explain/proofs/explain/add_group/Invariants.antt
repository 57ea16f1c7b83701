use Rattle.std.proofs.Common.{◌≡◌, ◌++◌, IfNone, string_bytes, drop}
use Rattle.std.specs.List.{flat_map}
use Rattle.station_explain.specs.Explaining.{name_lines}
use Rattle.station_explain.proofs.explain.add_group.Given as goal

abbrev pub invariant-loop-entry : goal.invariant-loop-entry
invariant-loop-entry l = IfNone l.near
    (string_bytes l.text ++ flat_map name_lines (drop l.entry-index l.group)
    ≡ string_bytes l.fn.text ++ flat_map name_lines l.group)
