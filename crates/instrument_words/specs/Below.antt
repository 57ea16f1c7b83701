-- Lines that are put on each page of a text.
use Rattle.std.specs.Prelude.{ℕ, ◌==◌, ◌&&◌, ◌-◌, List, [], ◌∷◌, ◌++◌, if◌then◌else◌}
use Rattle.instrument_words.specs.Instrument.{InstrumentValue}
use Rattle.instrument_words.specs.Texts.{instrument_text}
use Rattle.instrument_words.specs.declared.below.TheConstants as byte
use Rattle.instrument_words.specs.declared.below.TheConstants.{LINES_ABOVE}
use Rattle.report_phrases.specs.declared.language.Language.{Language}

-- what ends a line
abbrev pub LINE_FEED : ℕ
LINE_FEED = byte.LINE_FEED

-- How many lines of the page are still to come above the lines that are put, after a byte: at a form
-- feed a page begins, and at a line feed one line more stands above.
abbrev pub lines_above : ℕ → ℕ → ℕ
lines_above above b =
    if b == byte.FORM_FEED then LINES_ABOVE else (if b == LINE_FEED then above - 1 else above)

-- A text with lines put on each of its pages, below the lines that are still to come above them.
abbrev pub put_on_pages : ℕ → List ℕ → List ℕ → List ℕ
put_on_pages above lines [] = []
put_on_pages above lines (b ∷ text) =
    b ∷ ((if above == 1 && b == LINE_FEED then lines else [])
    ++ put_on_pages (lines_above above b) lines text)

-- A text with the lines in a language of what was recorded on each of its pages, below the third
-- line, which names the field file.
abbrev pub on_pages : Language → InstrumentValue → List ℕ → List ℕ
on_pages language recorded text = put_on_pages LINES_ABOVE (instrument_text language recorded) text
