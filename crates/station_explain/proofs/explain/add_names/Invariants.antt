use Rattle.std.proofs.Common.{◌≡◌, ◌++◌, IfNone, string_bytes, drop}
use Rattle.std.specs.List.{flat_map}
use Rattle.station_explain.specs.Explaining.{name_line, name_lines}
use Rattle.station_explain.proofs.explain.add_names.Given as goal

abbrev pub invariant-loop-name : goal.invariant-loop-name
invariant-loop-name l = IfNone l.near
    (string_bytes l.text
    ++ flat_map (λ name. name_line name.now l.entry.meaning.now)
    (drop l.name-index l.entry.names.now)
    ≡ string_bytes l.fn.text ++ name_lines l.entry)
