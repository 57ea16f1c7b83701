-- A line whose point has another name.
use Rattle.std.specs.Prelude.{◌≡◌, ℕ, ◌+◌, ◌≤◌, true, List, [], ◌∷◌, ◌++◌, length, take, drop}
use Rattle.std.specs.Prelude.{if◌then◌else◌}
use Rattle.gsi_word.specs.Blocks.{GsiBlock, IsBlock, is_starred, width_of}
use Rattle.gsi_word.specs.Words.{GsiWord}
use Rattle.gsi_word.specs.Names.{name_of}
use Rattle.station_book.specs.Blocks.{is_measurement, role_of}
use Rattle.set_marks.specs.Marks.{filled}

-- Where the content of the first word begins: after two digits, four bytes of information and a
-- sign, and in a line of GSI-16 after its `*`.
abbrev pub content_at : List ℕ → ℕ
content_at line = if is_starred line then 8 else 7

-- The line with this name as the content of its first word, filled with zeros from the left. Each
-- other byte is the line's.
abbrev pub renamed : List ℕ → List ℕ → List ℕ
renamed name line =
    take (content_at line) line
    ++ (filled (width_of line) name ++ drop (content_at line + width_of line) line)

-- The line is a measurement: a block that begins with a word 11.
pub record IsMeasurement (line : List ℕ) : Type 0 where
  pub block : GsiBlock
  pub is_block : IsBlock line block
  pub measures : is_measurement (role_of block) ≡ true

-- There is a whole content for the name, and with it the line is a measurement.
pub record TakesName (name line : List ℕ) : Type 0 where
  pub whole : content_at line + width_of line ≤ length line
  pub measures : IsMeasurement (renamed name line)

-- The name is read back as it is: no zero stands before it.
abbrev pub IsBare : List ℕ → Type 0
IsBare name = name_of name ≡ name

-- The words, the first with this name as its content.
abbrev pub named_first : ℕ → List ℕ → List GsiWord → List GsiWord
named_first width name [] = []
named_first width name (w ∷ ws) = record w { content = filled width name } ∷ ws

-- The block with this name as the content of its first word, and otherwise the same.
abbrev pub renamed_block : List ℕ → GsiBlock → GsiBlock
renamed_block name block =
    record { width = block.width; words = named_first block.width name block.words }
