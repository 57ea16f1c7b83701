use Rattle.adjust_kernel.proofs.MarkLaws.{AreSeen}
use Rattle.adjust_kernel.proofs.obs.has_each.Given as goal

abbrev pub invariant-loop-each : goal.invariant-loop-each
invariant-loop-each l = AreSeen l.sets l.targets l.obs l.seen l.each-index
