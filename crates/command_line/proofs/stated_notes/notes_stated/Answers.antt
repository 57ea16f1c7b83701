use Rattle.std.proofs.Common.{◌∙◌, codes, inl, inr, sym}
use Rattle.clap.specs.Words.{found_of}
use Rattle.command_line.specs.StatedNumbers.{texts_of}
use Rattle.report_notes.proofs.Stating.{no_notes}
use Rattle.command_line.proofs.stated_notes.notes_stated.Goals as goal

pub returns-in-Err-Wrong-clause-none : goal.returns-in-Err-Wrong-clause-none
returns-in-Err-Wrong-clause-none c =
    let wrong = rw c.in-Err-Wrong.field-0-is at c.in-Err-Wrong.ensures.why in
    let language = c.in-Some.language in
    inr (
      language,
      sym c.language_of.ensures ∙ c.in-Some.is,
      no_notes language (texts_of (found_of c.args.found.now) (codes "note")) _ wrong,
    )

pub returns-in_default-clause-none : goal.returns-in_default-clause-none
returns-in_default-clause-none c = inl (sym c.language_of.ensures ∙ c.in_default.is)
