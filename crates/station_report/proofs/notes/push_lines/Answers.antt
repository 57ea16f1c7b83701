use Rattle.station_report.proofs.NoteLaws.{push_more}
use Rattle.station_report.proofs.notes.push_lines.Goals as goal

pub loop-line-preserved : goal.loop-line-preserved
loop-line-preserved c =
    push_more c.args.lines.now c.loop-line.line-index _ c.args.text.now.items
    c.loop-line.text.items c.push_line.new.text.items c.loop-line-test.true c.loop-line.invariant
    c.in_ok-push_line.ensures
