use Rattle.std.proofs.Common.{◌≡◌, length}
use Rattle.set_marks.specs.Copies.{woven, AreOrdered}
use Rattle.station_check.proofs.Partway.{Partway}
use Rattle.station_mark.proofs.copy.print_copy.Given as goal

abbrev pub invariant-marks : goal.invariant-marks
invariant-marks g l = record {
  text : Partway (woven 0 l.bytes l.marks) (woven l.from l.bytes l.left)
      (g.W.Sink.holds l.fn.writer)
      l.fn.page (g.W.Sink.holds l.writer) l.page;
  ordered : AreOrdered l.from (length l.bytes) l.left;
  failed : g.W.Sink.failed l.writer ≡ g.W.Sink.failed l.fn.writer;
}

abbrev pub decreases-marks : goal.decreases-marks
decreases-marks g l = length l.left
