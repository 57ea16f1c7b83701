use Rattle.gsi_file.proofs.AnswerLaws.{failing, all_answered}
use Rattle.gsi_file.proofs.laws.failed_read_needs_a_failing_source.Goals as goal

pub returns-clause-fails : goal.returns-clause-fails
returns-clause-fails c = λ told e. failing 16777216 told.bytes told.fails e

pub returns-clause-all : goal.returns-clause-all
returns-clause-all c = λ told e. all_answered 16777216 told.bytes told.fails e
