use Rattle.std.proofs.Common.{take}
use Rattle.station_explain.specs.Naming.{IsNoName}
use Rattle.station_explain.proofs.explanations.explanation_named.Given as goal

abbrev pub invariant-groups : goal.invariant-groups
invariant-groups l = IsNoName (take l.group-index l.fn.groups) l.fn.name
