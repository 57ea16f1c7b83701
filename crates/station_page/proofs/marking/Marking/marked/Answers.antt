use Rattle.std.proofs.Common.{Ok, Err, ap}
use Rattle.station_page.proofs.marking.Marking.marked.Goals as goal

pub returns-in_ok-copy-in-Ok-clause-marks : goal.returns-in_ok-copy-in-Ok-clause-marks
returns-in_ok-copy-in-Ok-clause-marks c = record {
  stated = c.in_ok-stated.stated;
  is_stated = c.in_ok-stated.ensures.stated;
  marking = c.mark_file-marking.result;
  marks = c.mark_file-marking.ensures;
  copy_is = rw c.in-Ok.is
      (ap Ok (rw c.deref.ensures.value at c.in_ok-copy-in-Ok.ensures.woven));
  told_is = c.in_ok-told.ensures;
}

pub returns-in-Err-clause-marks : goal.returns-in-Err-clause-marks
returns-in-Err-clause-marks c = record {
  stated = c.in_ok-stated.stated;
  is_stated = c.in_ok-stated.ensures.stated;
  marking = c.mark_file-marking.result;
  marks = c.mark_file-marking.ensures;
  copy_is = rw c.in-Err.is (ap Err c.fault.ensures);
  told_is = c.in_ok-told.ensures;
}
