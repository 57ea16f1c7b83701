-- Columns of a text.
use Rattle.std.specs.Prelude.{ℕ, zero, suc, ◌-◌, List, [], ◌++◌, length, replicate}

-- the code of a blank
abbrev pub blank : ℕ
blank = 32

-- a text in a column that begins with it: blanks after it, up to the column's width
abbrev pub left_text : ℕ → List ℕ → List ℕ
left_text width text = text ++ replicate (width - length text) blank

-- a text in a column that ends with it: blanks before it, up to the column's width
abbrev pub right_text : ℕ → List ℕ → List ℕ
right_text width text = replicate (width - length text) blank ++ text

-- the lists of the places from 0 to below a count, as the texts of lines, one after the other
abbrev pub each_place : ℕ → (ℕ → List ℕ) → List ℕ
each_place zero text = []
each_place (suc n) text = each_place n text ++ text n
