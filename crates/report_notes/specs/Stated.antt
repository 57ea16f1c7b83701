-- The notes that texts state, as those of an option of a command line.
use Rattle.std.specs.Prelude.{◌≡◌, ◌⊎◌, ◌<◌, ◌==◌, ◌&&◌, ℕ, Bool, true, false, not, List, [], ◌∷◌}
use Rattle.std.specs.Prelude.{◌++◌, ⊤, if◌then◌else◌, length}
use Rattle.std.specs.List.{AllZip, after_first, before_first, position_or_len}
use Rattle.report_notes.specs.declared.notes.Note.{Note}
use Rattle.report_notes.specs.declared.stated.Unnoted.{Unnoted}
use Rattle.report_notes.specs.declared.stated.Unnoted.TheVariants as unnoted
use Rattle.report_phrases.specs.Phrases.{said}
use Rattle.report_phrases.specs.declared.language.Language.{Language}
use Rattle.report_phrases.specs.declared.phrase.Phrase.TheVariants as phrase

-- The blank.
abbrev pub blank : ℕ
blank = 32

-- Whether blanks stand in a text one at a time, and at neither end; `after` is whether a blank
-- stands before it, or nothing. A text without a byte has none that could stand so: it isn't.
abbrev pub is_spaced : Bool → List ℕ → Bool
is_spaced after [] = not after
is_spaced after (byte ∷ text) =
    if byte == blank then not after && is_spaced true text else is_spaced false text

-- A label that the head of a report in a language has of its own: a line begins with it, in a column
-- of 22 characters.
abbrev pub IsOwnLabel : Language → List ℕ → Type 0
IsOwnLabel language label =
    (label ≡ said language phrase.FieldFile) ⊎ (label ≡ said language phrase.Station)
    ⊎ (label ≡ said language phrase.Date) ⊎ (label ≡ said language phrase.Sets)
    ⊎ (label ≡ said language phrase.Targets) ⊎ (label ≡ said language phrase.TwoFaceDirections)
    ⊎ (label ≡ said language phrase.MissingDirections)
    ⊎ (label ≡ said language phrase.LimitOfTwoC) ⊎ (label ≡ said language phrase.LimitOfTwoI)
    ⊎ (label ≡ said language phrase.LimitOfResiduals)

-- A note may be of this: it is not empty, it has blanks one at a time and inside alone, and it is no
-- label that the head of a report in the language has of its own. With blanks as the head has them
-- after a label, a note would print the very line of that label.
abbrev pub IsFree : Language → List ℕ → Type 0
IsFree language key = (is_spaced true key ≡ true) × ¬ (IsOwnLabel language key)

-- Whether a byte is `=`.
abbrev pub is_equals : ℕ → Bool
is_equals byte = byte == 61

-- The text `KEY=TEXT` states this note: what stands before its first `=` is what the note is of, and
-- all after it is what is said of that.
pub record StatesNote (language : Language) (text : List ℕ) (note : Note) : Type 0 where
  pub has_equals : position_or_len is_equals text < length text
  pub key : note.key.now ≡ before_first is_equals text
  pub said : note.text.now ≡ after_first is_equals text
  pub free : IsFree language (before_first is_equals text)

-- Texts state these notes of a report in a language, each the one at its place.
abbrev pub AreNoted : Language → List (List ℕ) → List Note → Type 0
AreNoted language texts notes = AllZip (StatesNote language) texts notes

-- The note that a text states is added.
pub record AddsNote (language : Language) (old : List Note) (text : List ℕ) (new : List Note)
    : Type 0 where
  pub note : Note
  pub states : StatesNote language text note
  pub added : new ≡ old ++ note ∷ []

-- Why it isn't: memory ran out, or the text states none.
abbrev pub IsUnnoted : Language → List ℕ → Unnoted → Type 0
IsUnnoted language text unnoted.Memory = ⊤
IsUnnoted language text (unnoted.Wrong told) =
    (told.now ≡ text) × ((note : Note) → ¬ StatesNote language text note)

-- The text is the first that states no note: those before it state some.
pub record IsFirstUnnoted (language : Language) (texts : List (List ℕ)) (text : List ℕ)
    : Type 0 where
  pub before : List (List ℕ)
  pub after : List (List ℕ)
  pub notes : List Note
  pub whole : texts ≡ before ++ text ∷ after
  pub right : AreNoted language before notes
  pub wrong : (note : Note) → ¬ StatesNote language text note

-- Why texts state no notes: memory ran out, or a text is the first that states none.
abbrev pub AreUnnoted : Language → List (List ℕ) → Unnoted → Type 0
AreUnnoted language texts unnoted.Memory = ⊤
AreUnnoted language texts (unnoted.Wrong text) = IsFirstUnnoted language texts text.now
