-- What a report is told to note, without where it lies in memory.
use Rattle.std.specs.Prelude.{ℕ, Bool, false, List, [], map, Option, None, option_map}
use Rattle.report_notes.specs.declared.notes.Note.{Note}
use Rattle.report_notes.specs.declared.notes.Notes.{Notes}
use Rattle.report_phrases.specs.declared.language.Language.{Language}
use Rattle.report_phrases.specs.declared.language.Language.TheVariants.{English}

-- A note: what it is of, and what is said of it.
pub record NoteValue : Type 0 where
  pub key : List ℕ
  pub text : List ℕ

-- What a report notes: the language of its fixed phrases; its date, where one is stated; its lines;
-- whether it ends with lines for a place, a date and a signature; and whether it is divided into pages.
pub record NotesValue : Type 0 where
  pub language : Language
  pub date : Option (List ℕ)
  pub lines : List NoteValue
  pub signature : Bool
  pub pages : Bool

-- a note
abbrev pub note_value : Note → NoteValue
note_value note = record { key = note.key.now; text = note.text.now }

-- all of them
abbrev pub notes_value : Notes → NotesValue
notes_value notes = record {
  language = notes.language;
  date = option_map (λ date. date.now) notes.date;
  lines = map note_value notes.lines.items;
  signature = notes.signature;
  pages = notes.pages;
}

-- What a report notes that is told to note nothing: it is in English.
abbrev pub none_noted : NotesValue
none_noted = record { language = English; date = None; lines = []; signature = false; pages = false }
