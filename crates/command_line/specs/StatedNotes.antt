-- What the options of `report` state that it notes.
use Rattle.std.specs.Prelude.{◌≡◌, ◌⊎◌, ℕ, IsSome, List, Option, Some, None, true, codes}
use Rattle.std.specs.Prelude.{bytes_eq, if◌then◌else◌, option_map}
use Rattle.clap.specs.Words.{first_value, matched_of}
use Rattle.clap.specs.declared.parser.matches.Found.{Found}
use Rattle.command_line.specs.Stated.{StatesFlag}
use Rattle.command_line.specs.StatedNumbers.{texts_of}
use Rattle.report_notes.specs.Stated.{AreNoted}
use Rattle.report_notes.specs.declared.notes.Note.{Note}
use Rattle.report_notes.specs.declared.notes.Notes.{Notes}
use Rattle.report_phrases.specs.declared.language.Language.{Language}
use Rattle.report_phrases.specs.declared.language.Language.TheVariants.{English, French, German}

-- The language of a code: English, German or French.
abbrev pub language_named : List ℕ → Option Language
language_named code =
    if bytes_eq code (codes "en") then Some English
    else if bytes_eq code (codes "de") then Some German
    else if bytes_eq code (codes "fr") then Some French else None

-- The language that a report is to be written in: English where no text is stated, else the one of
-- the text, which may be none.
abbrev pub language_of : Option (List ℕ) → Option Language
language_of None = Some English
language_of (Some code) = language_named code

abbrev pub language_stated : Found → Option Language
language_stated found = language_of (first_value found (codes "language"))

-- These notes are stated by the texts of `--note`, each the one at its place, for a report in this
-- language.
abbrev pub StatesLines : Found → Language → List Note → Type 0
StatesLines found language lines = AreNoted language (texts_of found (codes "note")) lines

-- This is stated: the language, a date or none, the lines of `--note`, whether lines for a
-- signature are asked for, and whether the report is divided into pages.
pub record StatesNotes (found : Found) (notes : Notes) : Type 0 where
  pub of_language : language_stated found ≡ Some notes.language
  pub of_date : first_value found (codes "date") ≡ option_map (λ date. date.now) notes.date
  pub of_lines : StatesLines found notes.language notes.lines.items
  pub of_signature : StatesFlag found (codes "signature") notes.signature
  pub of_pages : StatesFlag found (codes "pages") notes.pages

-- A text of `--note` states no note in the stated language.
abbrev pub StatesNoLines : Found → Type 0
StatesNoLines found = (language : Language) × (language_stated found ≡ Some language)
    × ((lines : List Note) → ¬ StatesLines found language lines)

-- The text of the language is no code of one, or a text of `--note` states no note.
abbrev pub StatesNoNotes : Found → Type 0
StatesNoNotes found = (language_stated found ≡ None) ⊎ StatesNoLines found

-- Something is stated that a report alone can have: a language, a date, a note, a signature, or
-- pages.
abbrev pub SpeaksOfNotes : Found → Type 0
SpeaksOfNotes found = IsSome (matched_of found (codes "language"))
    ⊎ IsSome (matched_of found (codes "date"))
    ⊎ IsSome (matched_of found (codes "note")) ⊎ StatesFlag found (codes "signature") true
    ⊎ StatesFlag found (codes "pages") true
