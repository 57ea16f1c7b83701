use Rattle.set_marks.proofs.WrittenAgain.{each_is_counted, own_name, own_line}
use Rattle.set_marks.proofs.WrittenAgain.{none_unstated}
use Rattle.set_marks.proofs.laws.set_up_lines_written_again.Goals as goal

pub returns-clause-each : goal.returns-clause-each
returns-clause-each c = each_is_counted

pub returns-clause-own_name : goal.returns-clause-own_name
returns-clause-own_name c = own_name

pub returns-clause-own_line : goal.returns-clause-own_line
returns-clause-own_line c = own_line

pub returns-clause-unstated : goal.returns-clause-unstated
returns-clause-unstated c = none_unstated
