-- What is told of the changes of a copy.
use Rattle.std.specs.Prelude.{ℕ, List, ◌++◌, codes, decimal}
use Rattle.std.specs.List.{flat_map}
use Rattle.changed_lines.specs.declared.change.Change.{Change}
use Rattle.changed_lines.specs.declared.change.Edit.{Edit}
use Rattle.changed_lines.specs.declared.change.Edit.TheVariants.{Out, Rename}

-- What became of a line.
abbrev pub edit_text : Edit → List ℕ
edit_text Out = codes " left out"
edit_text (Rename name) = codes " has the name " ++ name

-- The line of a change.
abbrev pub note_line : Change → List ℕ
note_line c = codes "note: line " ++ (decimal c.line ++ (edit_text c.edit ++ codes "\n"))

-- A line of each change, in their order.
abbrev pub notes_text : List Change → List ℕ
notes_text cs = flat_map note_line cs

-- The same, of a copy that they make.
abbrev pub notes_of : List Change → List ℕ → List ℕ
notes_of cs copy = notes_text cs
