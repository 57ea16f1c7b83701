use Rattle.table_report.proofs.OneReport.{one_of_table}
use Rattle.table_report.proofs.laws.one_report.Goals as goal

pub returns : goal.returns
returns c = λ asked limits its bytes a b p q. one_of_table asked limits its bytes a b p q
