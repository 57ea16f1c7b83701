-- The lines of a table of all stations.
use Rattle.std.specs.Prelude.{◌==◌, ◌&&◌, ◌||◌, ℕ, Bool, true, false, List, [], ◌∷◌, ◌++◌, drop, map}
use Rattle.std.specs.Prelude.{nat_eq, not, if◌then◌else◌}
use Rattle.std.specs.Borrow.{Bor}
use Rattle.std.specs.List.{starts_with}
use Rattle.csv.specs.Machine.{line_feed}

-- What stands in the lines that are held.
abbrev pub of_lines : List (Bor (List ℕ)) → List (List ℕ)
of_lines lines = map (λ line. line.now) lines

-- The bytes with which a program may begin a text.
abbrev pub byte_order_mark : List ℕ
byte_order_mark = 239 ∷ 187 ∷ 191 ∷ []

-- A text without the byte order mark that it may begin with.
abbrev pub without_mark : List ℕ → List ℕ
without_mark text = if starts_with nat_eq text byte_order_mark then drop 3 text else text

-- Some lines, the first with a beginning before it.
abbrev pub begun : List ℕ → List (List ℕ) → List (List ℕ)
begun beginning [] = beginning ∷ []
begun beginning (line ∷ others) = (beginning ++ line) ∷ others

-- the byte of a carriage return
abbrev pub carriage_return : ℕ
carriage_return = 13

-- A text begins with a line feed.
abbrev pub feeds : List ℕ → Bool
feeds [] = false
feeds (byte ∷ text) = byte == line_feed

-- A line ends with this byte before this text: a line feed, or a carriage return that none follows.
abbrev pub ends_line : ℕ → List ℕ → Bool
ends_line byte text =
    (byte == line_feed) || ((byte == carriage_return) && not (feeds text))

-- The lines of a text, each without the byte that ends it; none ends the last.
unfoldable pub lines_in : List ℕ → List (List ℕ)
lines_in [] = [] ∷ []
lines_in (byte ∷ text) =
    if ends_line byte text then [] ∷ lines_in text else begun (byte ∷ []) (lines_in text)

-- The lines of a table.
abbrev pub lines_of : List ℕ → List (List ℕ)
lines_of table = lines_in (without_mark table)

-- Something stands in a line: more than the carriage return before its line feed.
abbrev pub has_text : List ℕ → Bool
has_text [] = false
has_text (byte ∷ []) = not (byte == carriage_return)
has_text (byte ∷ next ∷ others) = true
