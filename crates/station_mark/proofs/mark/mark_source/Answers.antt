use Rattle.byte_ends.specs.Source.{reader_change}
use Rattle.job_statements.specs.Numbers.{said_in}
use Rattle.station_mark.proofs.Givings.{answered, out_of_memory}
use Rattle.station_mark.proofs.mark.mark_source.Goals as goal

pub returns-in-Ok : goal.returns-in-Ok
returns-in-Ok g c =
    answered c.args.beginnings (said_in c.args.stated)
    (reader_change g.R.Source.told g.R.Source.failed g.R.Source.gave c.args.gsi
    c.all_given.new.source) c.in-Ok.given.bytes.items c.in-Ok.given.fails
    c.mark_given.result c.in-Ok.ensures.given c.mark_given.ensures.answers
    c.mark_given.ensures.kept

pub returns-in-Err : goal.returns-in-Err
returns-in-Err g c =
    out_of_memory c.args.beginnings (said_in c.args.stated)
    (reader_change g.R.Source.told g.R.Source.failed g.R.Source.gave c.args.gsi
    c.all_given.new.source) c.in-Err.ensures.some.0 c.in-Err.ensures.some.1
