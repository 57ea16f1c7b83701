use Rattle.std.proofs.Common.{◌∙◌, sym}
use Rattle.clap.specs.Words.{found_of}
use Rattle.command_line.proofs.NoteLaws.{no_language, right_notes}
use Rattle.command_line.proofs.stated_notes.wrong_note.Goals as goal
use Rattle.command_line.proofs.stated_notes.wrong_note.Goals.{in-Ok, in-Err-Memory}
use Rattle.command_line.proofs.stated_notes.wrong_note.Goals.{in-Err-Wrong}

pub returns-clause-none : goal.returns-clause-none
returns-clause-none c = elim c.match-lines_by.branch [
  | in-Ok w ↦ rw w.result-is
      (right_notes (found_of c.args.found.now) c.in-Some.language w.in-Ok.field-0.items
      (sym c.language_of.ensures ∙ c.in-Some.is) w.in-Ok.ensures.noted)
  | in-Err-Memory w ↦ rw w.result-is tt
  | in-Err-Wrong w ↦ rw w.result-is tt
]

pub returns-in_default-clause-none : goal.returns-in_default-clause-none
returns-in_default-clause-none c =
    no_language (found_of c.args.found.now) (sym c.language_of.ensures ∙ c.in_default.is)
