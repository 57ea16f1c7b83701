-- What a field file recorded of instrument and time: the contents of its words 12, 13, 17, 18 and 19
-- (GSI manual), as they stand. What their digits mean depends on how the instrument was set.
use Rattle.std.specs.Prelude.{◌≡◌, ◌⊎◌, ◌++◌, ℕ, Bool, not, List, [], ◌∷◌, map, Option, Some, None}
use Rattle.std.specs.List.{AllZip, flat_map, list_any}
use Rattle.std.specs.Str.{bytes_eq}
use Rattle.gsi_file.specs.FileAnswers.{FileAnswers}
use Rattle.gsi_file.specs.ToCome.{FaultIsNext, only}
use Rattle.gsi_file.specs.declared.file_fault.FileKind.{FileKind}
use Rattle.gsi_word.specs.Blocks.{GsiBlock, IsBlock}
use Rattle.gsi_word.specs.FoundWords.{words_with}
use Rattle.gsi_word.specs.Words.{GsiWord}
use Rattle.instrument_words.specs.declared.contents.Contents.{Contents}
use Rattle.instrument_words.specs.declared.instrument.Instrument.{Instrument}
use Rattle.instrument_words.specs.declared.instrument.TheConstants.{SERIAL_NUMBER, INSTRUMENT_TYPE, DATE}
use Rattle.instrument_words.specs.declared.instrument.TheConstants.{TIME_FORMAT_1, TIME_FORMAT_2}

-- What is told of contents, in the order of the file: the first, the last, and whether one of them
-- is another than the first.
pub record ContentsValue : Type 0 where
  pub first : List ℕ
  pub last : List ℕ
  pub varies : Bool

-- whether a content is another than the first
abbrev pub differs : List ℕ → List ℕ → Bool
differs first content = not (bytes_eq first content)

-- the last of these contents; where there is none, the one before them
abbrev pub last_after : List ℕ → List (List ℕ) → List ℕ
last_after before [] = before
last_after before (content ∷ contents) = last_after content contents

-- What is told of contents; of none nothing.
abbrev pub told_of : List (List ℕ) → Option ContentsValue
told_of [] = None
told_of (first ∷ others) = Some (record {
  first = first;
  last = last_after first others;
  varies = list_any (differs first) others;
})

-- the contents of the words of an index, in their order
abbrev pub contents_among : ℕ → List GsiWord → List (List ℕ)
contents_among index words = map (λ w. w.content) (words_with index words)

-- The contents of the words of an index in these blocks, in their order.
abbrev pub contents_of : ℕ → List GsiBlock → List (List ℕ)
contents_of index blocks = flat_map (λ block. contents_among index block.words) blocks

-- What is told of each of the five indices.
pub record InstrumentValue : Type 0 where
  pub serial_number : Option ContentsValue
  pub instrument_type : Option ContentsValue
  pub date : Option ContentsValue
  pub time_format_1 : Option ContentsValue
  pub time_format_2 : Option ContentsValue

-- What these blocks recorded of instrument and time.
abbrev pub instrument_of : List GsiBlock → InstrumentValue
instrument_of blocks = record {
  serial_number = told_of (contents_of SERIAL_NUMBER blocks);
  instrument_type = told_of (contents_of INSTRUMENT_TYPE blocks);
  date = told_of (contents_of DATE blocks);
  time_format_1 = told_of (contents_of TIME_FORMAT_1 blocks);
  time_format_2 = told_of (contents_of TIME_FORMAT_2 blocks);
}

-- A field file ended without a fault of its lines, and these are its blocks, in order.
pub record AreBlocksOf (file : FileAnswers) (blocks : List GsiBlock) : Type 0 where
  pub ended : file.last ≡ None
  pub lines : AllZip IsBlock file.lines blocks

-- These answers are the end of a field file, or a fault of it is next.
abbrev pub AreOver : FileAnswers → Type 0
AreOver left = (left ≡ only None) ⊎ ((kind : FileKind) × FaultIsNext left kind)

-- These are the blocks of a field file, in order, up to its end or to the first fault of its lines.
pub record AreBlocksUpTo (file : FileAnswers) (blocks : List GsiBlock) : Type 0 where
  pub lines : List (List ℕ)
  pub left : FileAnswers
  pub each : AllZip IsBlock lines blocks
  pub split : file ≡ record { lines = lines ++ left.lines; last = left.last }
  pub over : AreOver left

-- what is told, without where it lies in memory
abbrev pub contents_value : Contents → ContentsValue
contents_value c = record { first = c.first.now; last = c.last.now; varies = c.varies }

-- the same of the words of an index, where there are some
abbrev pub told_value : Option Contents → Option ContentsValue
told_value None = None
told_value (Some c) = Some (contents_value c)

-- and of all five
abbrev pub instrument_value : Instrument → InstrumentValue
instrument_value r = record {
  serial_number = told_value r.serial_number;
  instrument_type = told_value r.instrument_type;
  date = told_value r.date;
  time_format_1 = told_value r.time_format_1;
  time_format_2 = told_value r.time_format_2;
}
