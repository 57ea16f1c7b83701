use Rattle.std.proofs.Common.{◌≡◌}
use Rattle.gsi_word.specs.BlockViews.{block_of, words_left}
use Rattle.set_marks.specs.Stations.{information}
use Rattle.set_marks.proofs.FirstWords.{first_named}
use Rattle.set_marks.proofs.reading.information.Given as goal

abbrev pub invariant-loop-word : goal.invariant-loop-word
invariant-loop-word l =
    first_named (words_left l.word-iterator) ≡ information (block_of l.fn.block)
