use Rattle.std.proofs.Common.{◌+◌, ◌-◌, length}
use Rattle.refusal_places.proofs.LineWalks.{Walks}
use Rattle.refusal_places.proofs.line.line_span.Given as goal

abbrev pub invariant-parts : goal.invariant-parts
invariant-parts l = Walks l.bytes l.number l.left l.first

abbrev pub decreases-parts : goal.decreases-parts
decreases-parts l = length l.bytes + 1 - l.first
