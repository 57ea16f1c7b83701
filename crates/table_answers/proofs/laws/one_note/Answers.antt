use Rattle.table_answers.proofs.OneNote.{one_note}
use Rattle.table_answers.proofs.laws.one_note.Goals as goal

pub returns : goal.returns
returns c = λ form station bytes a b p q. one_note form station bytes a b p q
