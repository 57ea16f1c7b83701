-- How what is told grows as further words and blocks come.
use Rattle.std.specs.Prelude.{◌≡◌, ℕ, ◌||◌, List, Option, Some, None}
use Rattle.std.specs.List.{list_any}
use Rattle.gsi_file.specs.FileAnswers.{FileAnswers}
use Rattle.gsi_file.specs.ToCome.{ToCome}
use Rattle.gsi_word.specs.Blocks.{GsiBlock}
use Rattle.instrument_words.specs.Instrument.{AreBlocksUpTo, ContentsValue, InstrumentValue, contents_of}
use Rattle.instrument_words.specs.Instrument.{differs, last_after, told_of}
use Rattle.instrument_words.specs.declared.instrument.TheConstants.{SERIAL_NUMBER, INSTRUMENT_TYPE, DATE}
use Rattle.instrument_words.specs.declared.instrument.TheConstants.{TIME_FORMAT_1, TIME_FORMAT_2}

-- what is told once these contents have come too
abbrev pub onto : Option ContentsValue → List (List ℕ) → Option ContentsValue
onto None more = told_of more
onto (Some told) more = Some (record {
  first = told.first;
  last = last_after told.last more;
  varies = told.varies || list_any (differs told.first) more;
})

-- what is told once the words of these blocks have come too
abbrev pub instrument_onto : InstrumentValue → List GsiBlock → InstrumentValue
instrument_onto r more = record {
  serial_number = onto r.serial_number (contents_of SERIAL_NUMBER more);
  instrument_type = onto r.instrument_type (contents_of INSTRUMENT_TYPE more);
  date = onto r.date (contents_of DATE more);
  time_format_1 = onto r.time_format_1 (contents_of TIME_FORMAT_1 more);
  time_format_2 = onto r.time_format_2 (contents_of TIME_FORMAT_2 more);
}

-- These are the blocks that are still to come, up to the end or to a fault.
pub record AreToCome (t : ToCome) (blocks : List GsiBlock) : Type 0 where
  pub left : FileAnswers
  pub known : t.answers ≡ Some left
  pub are_blocks : AreBlocksUpTo left blocks
