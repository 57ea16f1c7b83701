use Rattle.std.proofs.Common.{◌≡◌, List, false, length}
use Rattle.gsi_file.specs.FileAnswers.{file_answers}
use Rattle.gsi_file.specs.InMemory.{comes, places_to_come}
use Rattle.gsi_word.specs.Blocks.{GsiBlock}
use Rattle.instrument_words.specs.Onto.{AreToCome, instrument_onto}
use Rattle.instrument_words.specs.Instrument.{AreBlocksUpTo, instrument_of, instrument_value}
use Rattle.instrument_words.proofs.instrument.instrument_in.Given as goal

abbrev pub invariant-lines : goal.invariant-lines
invariant-lines l =
    (blocks : List GsiBlock)
    → AreBlocksUpTo (file_answers (record { bytes = l.bytes; fails = false })) blocks
    → (rest : List GsiBlock) × AreToCome (comes l.lines) rest
    × (instrument_onto (instrument_value l.told) rest ≡ instrument_of blocks)

abbrev pub decreases-lines : goal.decreases-lines
decreases-lines l = length (places_to_come l.lines)
