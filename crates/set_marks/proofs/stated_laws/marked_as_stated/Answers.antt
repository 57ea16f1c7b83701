use Rattle.set_marks.proofs.AsStated.{marked_as_stated, marked_by_faces, marked_few_targets}
use Rattle.set_marks.proofs.AsStated.{marked_faultless}
use Rattle.set_marks.proofs.stated_laws.marked_as_stated.Goals as goal

pub returns-clause-numbers : goal.returns-clause-numbers
returns-clause-numbers c = marked_as_stated

pub returns-clause-by_faces : goal.returns-clause-by_faces
returns-clause-by_faces c = marked_by_faces

pub returns-clause-few_targets : goal.returns-clause-few_targets
returns-clause-few_targets c = marked_few_targets

pub returns-clause-faultless : goal.returns-clause-faultless
returns-clause-faultless c = marked_faultless
