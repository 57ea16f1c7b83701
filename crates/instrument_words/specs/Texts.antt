-- The lines of a report that say what its field file recorded of instrument and time (profile).
use Rattle.std.specs.Prelude.{ℕ, Bool, true, false, not, ◌&&◌, List, [], ◌++◌, codes, Option, Some}
use Rattle.std.specs.Prelude.{None, if◌then◌else◌}
use Rattle.std.specs.Str.{bytes_eq}
use Rattle.instrument_words.specs.Instrument.{ContentsValue, InstrumentValue}
use Rattle.report_phrases.specs.Phrases.{said}
use Rattle.report_phrases.specs.declared.language.Language.{Language}
use Rattle.report_phrases.specs.declared.phrase.Phrase.TheVariants as phrase

-- What is told in a language: the first content, and, if asked `to_last`, the last where it is
-- another; else whether there are others.
abbrev pub contents_text : Bool → Language → ContentsValue → List ℕ
contents_text to_last language told = told.first ++ (if to_last && not (bytes_eq told.first told.last)
    then said language phrase.ToLast ++ told.last
    else (if told.varies then said language phrase.AndOthers else []))

-- A line: a label, which fills its column below the label of the field file, and what is told;
-- where nothing is told there is none.
abbrev pub line_text : List ℕ → (ContentsValue → List ℕ) → Option ContentsValue → List ℕ
line_text label shown None = []
line_text label shown (Some told) = label ++ (shown told ++ codes "\n")

-- The lines in a language: of the instrument its serial number and its type, each the first and
-- whether there are others; of date and time the first and the last, or where these are the same
-- whether there are others.
abbrev pub instrument_text : Language → InstrumentValue → List ℕ
instrument_text language r =
    line_text (said language phrase.SerialNumber) (contents_text false language) r.serial_number
    ++ (line_text (said language phrase.InstrumentType) (contents_text false language) r.instrument_type
    ++ (line_text (said language phrase.RecordedDate) (contents_text true language) r.date
    ++ (line_text (said language phrase.TimeFormatOne) (contents_text true language) r.time_format_1
    ++ line_text (said language phrase.TimeFormatTwo) (contents_text true language) r.time_format_2)))
