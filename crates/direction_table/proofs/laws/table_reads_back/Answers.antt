use Rattle.direction_table.proofs.TableAgain.{table-again}
use Rattle.direction_table.proofs.laws.table_reads_back.Goals as goal

pub returns : goal.returns
returns c = table-again
