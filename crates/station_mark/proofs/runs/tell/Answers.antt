use Rattle.byte_ends.specs.Writers.{writer_change}
use Rattle.station_check.proofs.Partway.{written_or_failed}
use Rattle.station_mark.proofs.runs.tell.Goals as goal

pub returns-clause-notes : goal.returns-clause-notes
returns-clause-notes g c =
    let err = writer_change g.E.Sink c.args.err.now
    c.write_all.new.self in
    written_or_failed c.args.notes.now err c.write_all.result c.write_all.ensures.failed
    c.write_all.ensures.ok c.write_all.ensures.cut_short
