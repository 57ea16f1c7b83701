use Rattle.sheet_format.proofs.NameTests.{test-of-some}
use Rattle.direction_table.proofs.entry.name_of.Goals as goal

pub returns-clause-some : goal.returns-clause-some
returns-clause-some c =
    test-of-some c.args.field.now c.new.result c.new.ensures.some c.new.ensures.valid
