use Rattle.direction_table.proofs.PlainRows.{plain-stands}
use Rattle.direction_table.proofs.laws.plain_tables_stand.Goals as goal

pub returns : goal.returns
returns c = plain-stands
