-- A file in which just the lines that are named are changed.
use Rattle.std.specs.Prelude.{ℕ, suc, ◌==◌, List, [], ◌∷◌, ◌++◌, filter, not, Option, Some}
use Rattle.std.specs.Prelude.{None, if◌then◌else◌}
use Rattle.std.specs.List.{flat_map}
use Rattle.gsi_file.specs.Parts.{is_line, is_line_end}
use Rattle.set_marks.specs.Unmarked.{whole_lines}
use Rattle.changed_lines.specs.declared.change.Change.{Change}
use Rattle.changed_lines.specs.declared.change.Edit.{Edit}
use Rattle.changed_lines.specs.declared.change.Edit.TheVariants.{Out, Rename}
use Rattle.changed_lines.specs.Renaming.{renamed}

-- The bytes of a line before its end.
abbrev pub text_of : List ℕ → List ℕ
text_of whole = filter (λ b. not (is_line_end b)) whole

-- The bytes that end it.
abbrev pub end_of : List ℕ → List ℕ
end_of whole = filter is_line_end whole

-- A line with what ends it, and its number, where it has one.
pub record Numbered : Type 0 where
  pub number : Option ℕ
  pub whole : List ℕ

-- The lines with their numbers, of which so many came before. A line of blanks has none.
abbrev pub numbered : ℕ → List (List ℕ) → List Numbered
numbered count [] = []
numbered count (whole ∷ lines) =
    if is_line (text_of whole)
    then record { number = Some (suc count); whole = whole } ∷ numbered (suc count) lines
    else record { number = None; whole = whole } ∷ numbered count lines

-- What the changes say of the line of this number.
abbrev pub edit_of : ℕ → List Change → Option Edit
edit_of number [] = None
edit_of number (c ∷ cs) = if c.line == number then Some c.edit else edit_of number cs

-- The same of a line that may have no number: of that they say nothing.
abbrev pub edit_at : Option ℕ → List Change → Option Edit
edit_at None cs = None
edit_at (Some number) cs = edit_of number cs

-- What stands in the copy for a line: the line itself, or nothing, or the line with another name.
abbrev pub edited : Option Edit → List ℕ → List ℕ
edited None whole = whole
edited (Some Out) whole = []
edited (Some (Rename name)) whole = renamed name (text_of whole) ++ end_of whole

-- What stands in the copy for a line, by its number.
abbrev pub in_copy : List Change → Numbered → List ℕ
in_copy cs line = edited (edit_at line.number cs) line.whole

-- The file with these changes: what stands for each of its lines, in their order.
abbrev pub changed : List Change → List ℕ → List ℕ
changed cs bytes = flat_map (in_copy cs) (numbered 0 (whole_lines bytes))

-- What a reader of the copy counts in the place of a line.
abbrev pub edited_line : Option Edit → List ℕ → List (List ℕ)
edited_line None line = line ∷ []
edited_line (Some Out) line = []
edited_line (Some (Rename name)) line = renamed name line ∷ []

-- What it counts in the place of these lines, of which so many came before: those that no change
-- names are the same, in the same order.
abbrev pub edited_lines : ℕ → List Change → List (List ℕ) → List (List ℕ)
edited_lines count cs [] = []
edited_lines count cs (line ∷ lines) =
    edited_line (edit_of (suc count) cs) line ++ edited_lines (suc count) cs lines
