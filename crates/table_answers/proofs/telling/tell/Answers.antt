use Rattle.std.proofs.Common.{◌++◌, rules}
use Rattle.byte_ends.specs.Writers.{writer_change}
use Rattle.station_check.specs.RunEndings.{WritesOrFails}
use Rattle.station_compare.specs.Refusals.{refusal_text}
use Rattle.table_answers.proofs.Told.{text_told}
use Rattle.table_answers.proofs.telling.tell.Goals as goal

pub returns-in-Err-clause-told : goal.returns-in-Err-clause-told
returns-in-Err-clause-told g c =
    let written : WritesOrFails (c.args.note.now ++ refusal_text c.in-Err.refusal)
    (writer_change g.E.Sink c.args.err.now c.write_both.new.err) = search rules in
    rw c.in-Err.is (text_told c.args.note.now c.in-Err.refusal _ written)
