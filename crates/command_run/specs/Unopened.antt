-- The lines that name a file which can't be opened, or is there already, as a terminal can show them
-- on one line.
use Rattle.std.specs.Prelude.{◌∷◌, [], ◌++◌, ℕ, List, map, codes, if◌then◌else◌, encode_utf8_all}
use Rattle.std.specs.Char.{is_control}
use Rattle.std.specs.Str.{chars}

-- A character as it is shown: `?` in the place of a control character.
abbrev pub shown : ℕ → ℕ
shown c = if is_control c then 63 else c

-- A text with a `?` in the place of each control character.
abbrev pub printable : List ℕ → List ℕ
printable text = encode_utf8_all (map shown (chars text))

-- The line of a path, after these words.
abbrev pub path_line : List ℕ → List ℕ → List ℕ
path_line words path = words ++ printable path ++ 10 ∷ []

-- The line that names the path of a file that can't be opened.
abbrev pub unopened_line : List ℕ → List ℕ
unopened_line path = path_line (codes "cannot open ") path

-- The line that names the path of a file that is there already, where a new one was asked for.
abbrev pub there_line : List ℕ → List ℕ
there_line path = path_line (codes "already there: ") path
