use Rattle.gsi_file.proofs.Breaks.{broken_limit}
use Rattle.gsi_file.proofs.laws.answers_before_a_broken_limit.Goals as goal

pub returns : goal.returns
returns c = λ told x h. broken_limit 16777216 told.bytes told.fails x h
