-- A line that is a block of words (GSI manual; that a line may end with its last word, or with any
-- number of blanks, is profile).
use Rattle.std.specs.Prelude.{◌≡◌, ℕ, ◌<◌, Bool, nat_eq, codes, List, [], ◌∷◌, ◌++◌, length, drop}
use Rattle.std.specs.Prelude.{map, All, replicate, if◌then◌else◌, ◌⊎◌}
use Rattle.std.specs.List.{join_with_byte, starts_with}
use Rattle.gsi_word.specs.declared.index.TheConstants.{POINT_NUMBER, CODE_NUMBER}
use Rattle.gsi_word.specs.declared.word.TheConstants.{GSI_8, GSI_16}
use Rattle.gsi_word.specs.Bytes.{blank}
use Rattle.gsi_word.specs.Words.{GsiWord, IsWord, spelled}

-- What a block says: how many bytes the content of each word has, and its words in order.
pub record GsiBlock : Type 0 where
  pub width : ℕ
  pub words : List GsiWord

-- A GSI-16 line begins with `*`.
abbrev pub is_starred : List ℕ → Bool
is_starred line = starts_with nat_eq line (codes "*")

-- How many bytes the content of each word of a line has.
abbrev pub width_of : List ℕ → ℕ
width_of line = if is_starred line then GSI_16 else GSI_8

-- The bytes of a line in which its words stand: all, or those after the `*`.
abbrev pub word_bytes : List ℕ → List ℕ
word_bytes line = if is_starred line then drop 1 line else line

-- The bytes are these words, at least one, joined by single blanks, and then any number of blanks.
pub record AreWords (width : ℕ) (bytes : List ℕ) (words : List GsiWord) : Type 0 where
  pub some_word : 0 < length words
  pub each : All (IsWord width) words
  pub blanks : ℕ
  pub text : bytes ≡ join_with_byte blank (map spelled words) ++ replicate blanks blank

-- A measurement block begins with a point number, a code block with a code number.
abbrev pub IsFirst : GsiWord → Type 0
IsFirst w = (w.index ≡ POINT_NUMBER) ⊎ (w.index ≡ CODE_NUMBER)

-- The first of the words is one that a block begins with.
abbrev pub BeginsBlock : List GsiWord → Type 0
BeginsBlock [] = ⊥
BeginsBlock (w ∷ ws) = IsFirst w

-- The line is this block.
pub record IsBlock (line : List ℕ) (block : GsiBlock) : Type 0 where
  pub width : block.width ≡ width_of line
  pub words : AreWords (width_of line) (word_bytes line) block.words
  pub first : BeginsBlock block.words
