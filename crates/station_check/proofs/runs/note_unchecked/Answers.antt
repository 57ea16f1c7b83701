use Rattle.std.proofs.Common.{◌≡◌, ℕ, List, subst, rules}
use Rattle.byte_ends.specs.Writers.{writer_change}
use Rattle.station_check.specs.ListNotes.{unchecked_line}
use Rattle.station_check.specs.RunEndings.{WritesOrFails}
use Rattle.station_check.proofs.Partway.{written_or_failed}
use Rattle.station_check.proofs.Unchecked.{told_of_some}
use Rattle.station_check.proofs.runs.note_unchecked.Goals as goal

pub returns-then-unchecked-ne0-clause-note : goal.returns-then-unchecked-ne0-clause-note
returns-then-unchecked-ne0-clause-note g c =
    let text : c.as_slice.result.now ≡ unchecked_line c.args.unchecked = search rules in
    let err = writer_change g.E.Sink c.args.err.now
    c.write_all.new.self in
    told_of_some c.args.unchecked err c.if-unchecked-ne0.true
    (subst (λ (line : List ℕ). WritesOrFails line err) text
    (written_or_failed c.as_slice.result.now err c.write_all.result c.write_all.ensures.failed
    c.write_all.ensures.ok c.write_all.ensures.cut_short))
