use Rattle.std.proofs.Common.{length}
use Rattle.changed_lines.proofs.SaidChanges.{Reads}
use Rattle.changed_lines.proofs.saying.changes_in.Given as goal

abbrev pub invariant-pieces : goal.invariant-pieces
invariant-pieces l = Reads l.text l.changes.items l.rest

abbrev pub decreases-pieces : goal.decreases-pieces
decreases-pieces l = length l.rest
