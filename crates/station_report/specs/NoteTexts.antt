-- The lines of a report that say what it was told to note, and those at its end for a signature
-- (profile: as forms have them).
use Rattle.std.specs.Prelude.{ℕ, Bool, if◌then◌else◌, ◌-◌, List, [], ◌++◌, codes, nat_le}
use Rattle.std.specs.Prelude.{nat_lt, ◌||◌, Option, Some, None, replicate}
use Rattle.std.specs.List.{count_by, flat_map}
use Rattle.std.specs.Borrow.{Bor}
use Rattle.byte_digests.specs.NameTexts.{name_text}
use Rattle.report_notes.specs.Notes.{NotesValue, none_noted, notes_value}
use Rattle.report_notes.specs.declared.notes.Notes.{Notes}
use Rattle.report_phrases.specs.Phrases.{said}
use Rattle.report_phrases.specs.declared.language.Language.{Language}
use Rattle.report_phrases.specs.declared.phrase.Phrase.TheVariants as phrase
use Rattle.station_report.specs.Columns.{blank, left_text}
use Rattle.station_report.specs.declared.head.Head.{Head}

-- What stands in the head of a report that is not of the station: the path of the field file, as it
-- was named, and what was told to note.
pub record ReportHead : Type 0 where
  pub path : List ℕ
  pub notes : NotesValue

-- what a report was told to note, without where it lies in memory
abbrev pub noted : Option (Bor Notes) → NotesValue
noted None = none_noted
noted (Some notes) = notes_value notes.now

-- the head
abbrev pub head_of : Head → ReportHead
head_of head = record { path = head.path.now; notes = noted head.notes }

-- The head of a report that was told to note nothing.
abbrev pub unnoted : List ℕ → ReportHead
unnoted path = record { path = path; notes = none_noted }

-- Whether a byte begins a character: in UTF-8 the bytes 80 to BF (hex) go on with one.
abbrev pub begins_character : ℕ → Bool
begins_character byte = nat_lt byte 128 || nat_le 192 byte

-- How many characters a text has, each of which fills a column.
abbrev pub characters_of : List ℕ → ℕ
characters_of text = count_by begins_character text

-- A label in a column of 22 characters: a blank stands after each, and those of a shorter label fill
-- the column.
abbrev pub label_text : List ℕ → List ℕ
label_text label =
    label ++ (replicate (21 - characters_of label) blank ++ codes " ")

-- The line of a note: what it is of, and what is said of that, each as it was typed, but with its
-- control bytes escaped as those of a path, so that no note makes lines of its own.
abbrev pub note_text : List ℕ → List ℕ → List ℕ
note_text key said = label_text (name_text key) ++ (name_text said ++ codes "\n")

-- the line of the date, where one is stated
abbrev pub date_text : Language → Option (List ℕ) → List ℕ
date_text language None = []
date_text language (Some date) = note_text (said language phrase.Date) date

-- The date, and then the notes in their order.
abbrev pub notes_text : NotesValue → List ℕ
notes_text notes = date_text notes.language notes.date
    ++ flat_map (λ note. note_text note.key note.text) notes.lines

-- a line to write on by hand, after a label and an empty line
abbrev pub blank_line : List ℕ → List ℕ
blank_line label = codes "\n" ++ (left_text 22 label ++ (replicate 40 95 ++ codes "\n"))

-- the lines for a place and a date, and for a signature
abbrev pub blank_lines : Language → List ℕ
blank_lines language = blank_line (said language phrase.PlaceAndDate)
    ++ blank_line (said language phrase.Signature)

-- The same, where they are asked for.
abbrev pub signature_text : NotesValue → List ℕ
signature_text notes = if notes.signature then blank_lines notes.language else []
