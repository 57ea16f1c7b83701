use Rattle.std.proofs.Common.{not}
use Rattle.std.specs.List.{count_by}
use Rattle.adjust_kernel.specs.Marks.{MarksSpread}
use Rattle.adjust_kernel.proofs.connection.is_connected.Given as goal

abbrev pub invariant-sweeps : goal.invariant-sweeps
invariant-sweeps l = MarksSpread l.sets l.targets l.obs l.marks

abbrev pub decreases-sweeps : goal.decreases-sweeps
decreases-sweeps l = count_by not l.marks
