use Rattle.std.proofs.Common.{◌≡◌, Err, rules}
use Rattle.book_answers.proofs.PartLaws.{lacks_table}
use Rattle.station_tables.specs.Lines.{of_lines}
use Rattle.station_tables.specs.Parts.{part_of}
use Rattle.book_answers.proofs.part.own_of_its_part.Goals as goal

pub returns-in_err-note-clause-text : goal.returns-in_err-note-clause-text
returns-in_err-note-clause-text c =
    let its = c.args.surveyed.now in
    let fault = c.in_err-note.field-0.0 in
    let is_its : c.from_residual-in_err-note.result ≡ Err fault = search rules in
    let part : c.deref-2.result.now ≡ part_of its.station.name (of_lines c.args.lines.now) =
    search rules in
    let lacks = lacks_table c.form_in_part.result c.args.asked.text c.args.limits its
    c.deref-2.result.now fault c.in_err-note.ensures.compared c.in_err-note.ensures.differs in
    rw is_its (rw (c.form_in_part.ensures, part) at lacks)
