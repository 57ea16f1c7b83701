use Rattle.std.proofs.Common.{length}
use Rattle.job_statements.proofs.zeros.+bare_of.Given as goal

abbrev pub decreases-bare_of : goal.decreases-bare_of
decreases-bare_of l = length l.bytes.now
