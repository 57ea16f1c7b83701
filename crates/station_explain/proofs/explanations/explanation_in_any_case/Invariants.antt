use Rattle.std.proofs.Common.{take}
use Rattle.std.specs.Prelude.{All}
use Rattle.station_explain.specs.Naming.{LacksNameInAnyCase}
use Rattle.station_explain.proofs.explanations.explanation_in_any_case.Given as goal

abbrev pub invariant-entries : goal.invariant-entries
invariant-entries l = All (LacksNameInAnyCase l.fn.name) (take l.entry-index l.fn.entries)
