use Rattle.set_marks.proofs.Spans.{several_end, single_ends}
use Rattle.set_marks.proofs.division_laws.last_set_ends.Goals as goal

pub returns-clause-several : goal.returns-clause-several
returns-clause-several c = several_end

pub returns-clause-single : goal.returns-clause-single
returns-clause-single c = single_ends
