use Rattle.std.proofs.Common.{length}
use Rattle.changed_lines.proofs.Walks.{Goes}
use Rattle.changed_lines.proofs.copy.changed_copy.Given as goal

abbrev pub invariant-lines : goal.invariant-lines
invariant-lines l = Goes l.bytes l.changes l.count l.rest l.left l.copy.items

abbrev pub decreases-lines : goal.decreases-lines
decreases-lines l = length l.rest
