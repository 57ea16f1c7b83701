use Rattle.std.proofs.Common.{rules, ◌≤◌, ◌+◌, length}
use Rattle.refusal_places.specs.MeantParts.{word_size}
use Rattle.refusal_places.proofs.MeantWords.{goes_on}
use Rattle.refusal_places.proofs.meant_part.word_of.Goals as goal
use Rattle.refusal_places.proofs.meant_part.word_of.Goals.{else-line-first-via-else-line-first}
use Rattle.refusal_places.proofs.meant_part.word_of.Goals.{else-line-first-via-then-line-first+else-line-first-2}

pub words-preserved : goal.words-preserved
words-preserved c =
    let size = c.word_size-size.ensures.value in
    let whole : c.words.first + word_size c.args.line.now ≤ length c.args.line.now =
    search rules in
    rw size (goes_on c.args.line.now c.args.index c.words.first c.words.invariant whole
    (λ tens ones. elim c.else-line-first.branch [
      | else-line-first-via-then-line-first+else-line-first-2 w ↦ search rules
      | else-line-first-via-else-line-first w ↦ search rules
    ]))
