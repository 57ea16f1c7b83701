use Rattle.clap.specs.Words.{found_of}
use Rattle.command_line.proofs.MistakeLaws.{right-counts}
use Rattle.command_line.proofs.mistakes.wrong_count.Goals as goal
use Rattle.command_line.proofs.mistakes.wrong_count.Goals.{in-Ok, in-Err-Memory, in-Err-Wrong}

pub returns-clause-none : goal.returns-clause-none
returns-clause-none c = elim c.match-counted.branch [
  | in-Ok w ↦ rw w.result-is
      (right-counts (found_of c.args.found.now) c.args.option w.in-Ok.field-0
      w.in-Ok.ensures.stated)
  | in-Err-Memory w ↦ rw w.result-is tt
  | in-Err-Wrong w ↦ rw w.result-is tt
]
