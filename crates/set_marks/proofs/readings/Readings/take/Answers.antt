use Rattle.std.proofs.Common.{rules}
use Rattle.gsi_word.specs.BlockViews.{block_of}
use Rattle.set_marks.specs.Keeping.{begun_in}
use Rattle.set_marks.proofs.Sighting.{other_clean, adds_other}
use Rattle.set_marks.proofs.readings.Readings.take.Goals as goal

pub returns-then-not-has_code-clause-clean : goal.returns-then-not-has_code-clause-clean
returns-then-not-has_code-clause-clean c =
    other_clean c.args.beginnings.now (begun_in c.args.self.now.station) c.args.number
    (block_of c.args.block.now) (search rules) (search rules) (search rules)

pub returns-then-not-has_code-clause-adds : goal.returns-then-not-has_code-clause-adds
returns-then-not-has_code-clause-adds c =
    adds_other c.args.beginnings.now (block_of c.args.block.now) c.args.number c.args.self.now _
    (search rules) (search rules) (search rules) (search rules) (search rules) (search rules)
    (search rules)
