-- What is known of the stated language and of the notes in it.
use Rattle.std.proofs.Common.{◌≡◌, ◌∙◌, ℕ, List, None, Some, codes, subst, sym}
use Rattle.clap.specs.declared.parser.matches.Found.{Found}
use Rattle.command_line.specs.Mistakes.{IsWrongNote}
use Rattle.command_line.specs.StatedNotes.{StatesLines, language_stated}
use Rattle.command_line.specs.StatedNumbers.{texts_of}
use Rattle.report_notes.proofs.Stating.{no_notes}
use Rattle.report_notes.specs.Stated.{IsFirstUnnoted}
use Rattle.report_notes.specs.declared.notes.Note.{Note}
use Rattle.report_phrases.specs.declared.language.Language.{Language}

-- One language is stated at most.
one_language : (found : Found) (a b : Language) → language_stated found ≡ Some a
    → language_stated found ≡ Some b → a ≡ b
one_language found a b is that = let both : Some a ≡ Some b = sym is ∙ that in cc

-- Where notes are stated in the stated language, no text of one is wrong.
pub right_notes : (found : Found) (language : Language) (lines : List Note)
    → language_stated found ≡ Some language → StatesLines found language lines
    → (text : List ℕ) → ¬ (IsWrongNote found text)
right_notes found language lines is noted text wrong =
    let first : IsFirstUnnoted language (texts_of found (codes "note")) text =
    subst (λ (l : Language). IsFirstUnnoted l (texts_of found (codes "note")) text)
    (one_language found wrong.language language wrong.stated is) wrong.first in
    no_notes language (texts_of found (codes "note")) text first lines noted

-- Where no language is stated that may be, no text of a note is judged.
pub no_language : (found : Found) → language_stated found ≡ None
    → (text : List ℕ) → ¬ (IsWrongNote found text)
no_language found none text wrong =
    let both : None ≡ Some wrong.language = sym none ∙ wrong.stated in absurd (cc)
