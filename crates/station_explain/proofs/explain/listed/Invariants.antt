use Rattle.std.proofs.Common.{◌≡◌, ◌++◌, IfNone, string_bytes, drop}
use Rattle.station_explain.specs.Explaining.{list_text}
use Rattle.station_explain.proofs.explain.listed.Given as goal

abbrev pub invariant-loop-group : goal.invariant-loop-group
invariant-loop-group l =
    IfNone l.near (string_bytes l.text ++ list_text (drop l.group-index l.table)
    ≡ list_text l.table)
