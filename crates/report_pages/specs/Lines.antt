-- The lines of a text.
use Rattle.std.specs.Prelude.{ℕ, ◌==◌, Bool, false, List, [], ◌∷◌, slice_index_or, if◌then◌else◌}
use Rattle.std.specs.List.{onto_first}
use Rattle.report_pages.specs.declared.lines.TheConstants.{LINE_FEED}

-- The lines, each with the line feed that ends it; what stands after the last of these is a line
-- too.
abbrev pub lines : List ℕ → List (List ℕ)
lines [] = []
lines (byte ∷ text) =
    if byte == LINE_FEED then (byte ∷ []) ∷ lines text else onto_first byte (lines text)

-- the first byte of a line
abbrev pub first_byte : List ℕ → ℕ
first_byte line = slice_index_or line 0 LINE_FEED

-- Nothing stands in a line.
abbrev pub is_empty : List ℕ → Bool
is_empty line = first_byte line == LINE_FEED

-- The first of these lines is empty.
abbrev pub begins_empty : List (List ℕ) → Bool
begins_empty [] = false
begins_empty (line ∷ more) = is_empty line
