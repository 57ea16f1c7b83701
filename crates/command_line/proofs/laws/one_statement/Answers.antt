use Rattle.command_line.specs.StatedNumbers.{texts_of}
use Rattle.job_statements.proofs.NumberLaws.{one-statement}
use Rattle.command_line.proofs.laws.one_statement.Goals as goal

pub returns : goal.returns
returns c = λ found id largest a b s t. one-statement largest (texts_of found id) a b s t
