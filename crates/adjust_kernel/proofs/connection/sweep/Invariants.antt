use Rattle.adjust_kernel.proofs.MarkLaws.{IsSwept}
use Rattle.adjust_kernel.proofs.connection.sweep.Given as goal

abbrev pub invariant-loop-each : goal.invariant-loop-each
invariant-loop-each l = IsSwept l.sets l.targets l.obs l.initial.marks l.marks l.any l.each-index
