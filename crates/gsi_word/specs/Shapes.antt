-- How the words of a block lie in its line.
use Rattle.std.specs.Prelude.{List, ℕ}
use Rattle.gsi_word.specs.declared.shape.Shape.{Shape}
use Rattle.gsi_word.specs.Blocks.{GsiBlock, word_bytes, IsBlock}
use Rattle.gsi_word.specs.Layout.{words_from, KeepsWords}

-- The width and the words of a line of this shape.
abbrev pub shaped : Shape → List ℕ → GsiBlock
shaped s line = record { width = s.width; words = words_from s.width s.count (word_bytes line) }

-- The line is a block of this shape.
pub record IsShape (s : Shape) (line : List ℕ) : Type 0 where
  pub kept : KeepsWords s.width (word_bytes line) s.count
  pub block : IsBlock line (shaped s line)
