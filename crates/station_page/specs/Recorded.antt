-- What a field file recorded of instrument and time, as it is handed out.
use Rattle.std.specs.Prelude.{◌≡◌, ℕ, false, List}
use Rattle.gsi_file.specs.FileAnswers.{file_answers}
use Rattle.gsi_word.specs.Blocks.{GsiBlock}
use Rattle.instrument_words.specs.Instrument.{AreBlocksUpTo, instrument_of}
use Rattle.instrument_words.specs.Texts.{instrument_text}
use Rattle.report_phrases.specs.declared.language.Language.{Language}

-- Of a file with these blocks, up to its end or to the first fault of its lines, the text has the
-- lines of what they recorded, in a language.
abbrev pub IsRecorded : Language → List ℕ → List ℕ → Type 0
IsRecorded language gsi text =
    (blocks : List GsiBlock)
    → AreBlocksUpTo (file_answers (record { bytes = gsi; fails = false })) blocks
    → text ≡ instrument_text language (instrument_of blocks)
