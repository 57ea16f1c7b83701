-- What is made of a text and of the bytes of its field file, where all of them were kept.
use Rattle.std.specs.Prelude.{◌≡◌, ℕ, false, List, Option, Some, None, Result, Ok, Err}
use Rattle.gsi_file.specs.FileAnswers.{file_answers}
use Rattle.gsi_word.specs.Blocks.{GsiBlock}
use Rattle.instrument_reports.specs.Answers.{Putting}
use Rattle.instrument_words.specs.Instrument.{AreBlocksOf, instrument_of}

-- A text that is made so of one and of what these bytes recorded, if they are blocks.
abbrev pub IsWith : Putting → Option (List ℕ) → List ℕ → List ℕ → Type 0
IsWith put None own whole = ⊥
IsWith put (Some bytes) own whole = (blocks : List GsiBlock)
    → AreBlocksOf (file_answers (record { bytes = bytes; fails = false })) blocks
    → whole ≡ put (instrument_of blocks) own

-- An answer with that, or why there is none: its own refusal, or that memory ran out, which
-- `IsMemory` says of a refusal.
abbrev pub IsAnswerWith : {T F : Type 0} → Putting → (T → List ℕ) → (F → Type 0)
    → Option (List ℕ) → Result T F → Result T F → Type 0
IsAnswerWith put items IsMemory kept (Ok own) (Ok whole) =
    IsWith put kept (items own) (items whole)
IsAnswerWith put items IsMemory kept (Ok own) (Err refusal) = IsMemory refusal
IsAnswerWith put items IsMemory kept (Err refusal) r = r ≡ Err refusal
