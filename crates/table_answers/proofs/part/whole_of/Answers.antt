use Rattle.std.proofs.Common.{rules}
use Rattle.table_answers.proofs.PartTables.{lacks_some}
use Rattle.table_answers.proofs.part.whole_of.Goals as goal

pub returns-in-Err-Missing-clause-whole : goal.returns-in-Err-Missing-clause-whole
returns-in-Err-Missing-clause-whole c = (
  search rules,
  lacks_some c.args.part.now.directions.items c.in-Err-Missing.field-0-0 (search rules),
)
