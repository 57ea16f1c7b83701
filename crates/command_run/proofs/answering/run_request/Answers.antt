use Rattle.std.proofs.Common.{rules}
use Rattle.command_run.proofs.answering.run_request.Goals as goal

-- The copy went to the new file, and nothing was asked of `out`.
pub returns-in-Mark-clause-run : goal.returns-in-Mark-clause-run
returns-in-Mark-clause-run g c =
    rw c.in-Mark.is (rw c.in-Some.is
    (search rules, c.run_mark-in-Some.new.out, c.run_mark-in-Some.ensures))

-- The changes are those of the request.
pub returns-in-Change-clause-run : goal.returns-in-Change-clause-run
returns-in-Change-clause-run g c =
    rw c.in-Change.is (rw c.deref.ensures.value at c.change_lines.ensures.run)
