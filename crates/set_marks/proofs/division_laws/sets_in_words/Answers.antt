use Rattle.set_marks.proofs.SetsInWords.{sets_in_words}
use Rattle.set_marks.proofs.division_laws.sets_in_words.Goals as goal

pub returns : goal.returns
returns c = sets_in_words
