use Rattle.std.proofs.Common.{refl}
use Rattle.command_run.proofs.answering.open_named.Goals as goal
use Rattle.command_run.proofs.answering.open_named.Goals.{in-Some, in-None+in_ok-name-in-None}

-- The name is the stated one, or that of the only station.
pub returns-clause-named : goal.returns-clause-named
returns-clause-named g c = elim c.match-stated.branch [
  | in-Some w ↦ rw (w.in-Some.is, w.name-is) refl
  | in-None+in_ok-name-in-None w ↦ rw (w.in-None.is, w.name-is)
      w.in_ok-name-in-None.ensures.named
]
