use Rattle.gsi_file.proofs.Breaks.{no_broken_limit}
use Rattle.gsi_file.proofs.laws.answers_within_the_limits.Goals as goal

pub returns : goal.returns
returns c = λ told h. no_broken_limit 16777216 told.bytes told.fails h
