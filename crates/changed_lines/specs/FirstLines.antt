-- What the code finds at the front of what is left of a file.
use Rattle.std.specs.Prelude.{◌≡◌, ℕ, ◌<◌, Bool, true, false, List, ◌∷◌, length}
use Rattle.gsi_file.specs.Parts.{is_line, numbered_lines}
use Rattle.set_marks.specs.Unmarked.{whole_lines}
use Rattle.changed_lines.specs.ChangedFile.{text_of, end_of}
use Rattle.changed_lines.specs.declared.first_line.FirstLine.{FirstLine}

-- The text of a line, where it is one, and then these lines.
abbrev pub with_line : Bool → List ℕ → List (List ℕ) → List (List ℕ)
with_line true text lines = text ∷ lines
with_line false text lines = lines

-- The first line of these bytes: its text, its end and what comes after it.
pub record IsFirstLine (bytes : List ℕ) (l : FirstLine) : Type 0 where
  pub text : l.text.now ≡ text_of l.whole.now
  pub end : l.end.now ≡ end_of l.whole.now
  pub first : whole_lines bytes ≡ l.whole.now ∷ whole_lines l.after.now
  pub counted : numbered_lines bytes
      ≡ with_line (is_line l.text.now) l.text.now (numbered_lines l.after.now)
  pub shorter : length l.after.now < length bytes
