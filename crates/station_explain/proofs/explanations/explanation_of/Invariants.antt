use Rattle.std.proofs.Common.{take}
use Rattle.std.specs.Prelude.{All}
use Rattle.station_explain.specs.Naming.{LacksName}
use Rattle.station_explain.proofs.explanations.explanation_of.Given as goal

abbrev pub invariant-entries : goal.invariant-entries
invariant-entries l = All (LacksName l.fn.name) (take l.entry-index l.fn.entries)
