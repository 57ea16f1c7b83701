use Rattle.std.proofs.Common.{take}
use Rattle.station_explain.specs.Naming.{IsNoNameInAnyCase}
use Rattle.station_explain.proofs.explanations.explanation_named_in_any_case.Given as goal

abbrev pub invariant-groups : goal.invariant-groups
invariant-groups l = IsNoNameInAnyCase (take l.group-index l.fn.groups) l.fn.name
