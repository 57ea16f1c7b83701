use Rattle.direction_table.proofs.PlainRows.{two-columns-stand}
use Rattle.direction_table.proofs.laws.two_columns_stand.Goals as goal

pub returns : goal.returns
returns c = two-columns-stand
