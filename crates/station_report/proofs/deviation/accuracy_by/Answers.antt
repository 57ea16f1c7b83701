use Rattle.std.proofs.Common.{arith}
use Rattle.station_report.proofs.deviation.accuracy_by.Goals as goal

pub accuracy_of-requires : goal.accuracy_of-requires
accuracy_of-requires c =
    let value = c.degrees_of.ensures.value in
    record {
      exact = c.requires.exact;
      limited = c.requires.limited;
      tied = c.requires.tied;
      free = omega (arith, value);
      sum = c.in_ok-squares.ensures.squares;
      bound = c.in_ok-squares.ensures.bound;
    }
