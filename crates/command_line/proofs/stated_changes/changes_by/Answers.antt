use Rattle.clap.specs.Words.{found_of}
use Rattle.changed_lines.proofs.Stating.{no_changes}
use Rattle.command_line.specs.StatedChanges.{change_name}
use Rattle.command_line.specs.StatedNumbers.{texts_of}
use Rattle.command_line.proofs.stated_changes.changes_by.Goals as goal

pub returns-in-Err-Wrong-clause-none : goal.returns-in-Err-Wrong-clause-none
returns-in-Err-Wrong-clause-none c =
    let wrong = rw c.in-Err-Wrong.field-0-is at c.in-Err-Wrong.ensures.why in
    no_changes c.args.kind (texts_of (found_of c.args.found.now) (change_name c.args.kind)) _ wrong
