use Rattle.std.proofs.Common.{◌≡◌, ◌++◌, List, ℕ}
use Rattle.gsi_word.specs.BlockViews.{block_of, words_left}
use Rattle.instrument_words.specs.Onto.{onto}
use Rattle.instrument_words.specs.Instrument.{contents_among, told_value}
use Rattle.instrument_words.proofs.contents.with_block.Given as goal

abbrev pub invariant-loop-word : goal.invariant-loop-word
invariant-loop-word l =
    (more : List (List ℕ)) → onto (told_value l.told) (contents_among l.index (words_left l.word-iterator) ++ more)
    ≡ onto (told_value l.fn.told) (contents_among l.index (block_of l.fn.block).words ++ more)
