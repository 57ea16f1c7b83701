use Rattle.clap.specs.Words.{found_of}
use Rattle.changed_lines.proofs.Stating.{no_changes}
use Rattle.command_line.specs.StatedChanges.{change_name}
use Rattle.command_line.specs.StatedNumbers.{texts_of}
use Rattle.command_line.proofs.stated_changes.wrong_change.Goals as goal
use Rattle.command_line.proofs.stated_changes.wrong_change.Goals.{in-Ok, in-Err-Memory}
use Rattle.command_line.proofs.stated_changes.wrong_change.Goals.{in-Err-Wrong}

pub returns-clause-none : goal.returns-clause-none
returns-clause-none c = elim c.match-said_by.branch [
  | in-Ok w ↦ rw w.result-is
      (λ text wrong. no_changes c.args.kind
      (texts_of (found_of c.args.found.now) (change_name c.args.kind)) text wrong
      w.in-Ok.field-0.items w.in-Ok.ensures.stated)
  | in-Err-Memory w ↦ rw w.result-is tt
  | in-Err-Wrong w ↦ rw w.result-is tt
]
