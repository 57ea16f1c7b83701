use Rattle.station_report.proofs.deviation.accuracy_of.Goals as goal

pub returns-clause-accuracy : goal.returns-clause-accuracy
returns-clause-accuracy c = record {
  some = c.requires.free;
  squares = c.sum_of.ensures.rounded;
  of_one = c.deviation_of.ensures.deviation;
  of_adjusted = c.of_adjusted.ensures.deviation;
}
