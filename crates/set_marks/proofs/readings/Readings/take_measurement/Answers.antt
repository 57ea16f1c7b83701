use Rattle.std.proofs.Common.{rules}
use Rattle.gsi_word.specs.BlockViews.{block_of}
use Rattle.set_marks.proofs.Sighting.{adds_sight}
use Rattle.set_marks.proofs.readings.Readings.take_measurement.Goals as goal

pub returns-in_ok-add_sight-in-Ok-Some-clause-adds :
    goal.returns-in_ok-add_sight-in-Ok-Some-clause-adds
returns-in_ok-add_sight-in-Ok-Some-clause-adds c =
    adds_sight c.args.beginnings.now (block_of c.args.block.now) c.args.number c.args.self.now
    c.add_sight.new.self c.in-Ok-Some.reading c.requires.measurement (search rules) (search rules)
    (search rules) (search rules) (search rules) (search rules)
