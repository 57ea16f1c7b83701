use Rattle.std.proofs.Common.{◌-◌, length}
use Rattle.refusal_places.proofs.MeantWords.{Seeks}
use Rattle.refusal_places.proofs.meant_part.word_of.Given as goal

abbrev pub invariant-words : goal.invariant-words
invariant-words l = Seeks l.line l.index l.first

abbrev pub decreases-words : goal.decreases-words
decreases-words l = length l.line - l.first
