use Rattle.direction_table.proofs.WrittenDirections.{text-form, text-range, text-value}
use Rattle.direction_table.proofs.laws.direction_reads_back.Goals as goal

pub returns-clause-form : goal.returns-clause-form
returns-clause-form c = text-form

pub returns-clause-small : goal.returns-clause-small
returns-clause-small c = text-range

pub returns-clause-value : goal.returns-clause-value
returns-clause-value c = text-value
