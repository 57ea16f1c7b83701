-- What a `Block` stands for.
use Rattle.std.specs.Prelude.{List, drop}
use Rattle.gsi_word.specs.declared.block.Block.{Block}
use Rattle.gsi_word.specs.declared.words.Words.{Words}
use Rattle.gsi_word.specs.Words.{GsiWord}
use Rattle.gsi_word.specs.Blocks.{GsiBlock}
use Rattle.gsi_word.specs.Layout.{words_from}

-- The width and the words of a block.
abbrev pub block_of : Block → GsiBlock
block_of b = record { width = b.width; words = words_from b.width b.count b.bytes.now }

-- The words that are still to come.
abbrev pub words_left : Words → List GsiWord
words_left w = drop w.place (block_of w.block).words
