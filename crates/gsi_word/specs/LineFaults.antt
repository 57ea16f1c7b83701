-- The first fault of a line that is no block, as a fact about the whole line. That bytes come
-- before words, and all words before the first one's index, is profile.
use Rattle.std.specs.Prelude.{◌≡◌, ◌≢◌, ℕ, ◌+◌, List, [], ◌∷◌, ◌++◌, length, All, Any, ◌⊎◌, ⊤}
use Rattle.std.specs.List.{flat_map}
use Rattle.gsi_word.specs.declared.line_fault.LineFault.{LineFault}
use Rattle.gsi_word.specs.declared.line_fault.LineFault.TheVariants.{Byte, Word, FirstWord}
use Rattle.gsi_word.specs.Bytes.{blank}
use Rattle.gsi_word.specs.Words.{GsiWord, IsLineByte, IsWord, spelled}
use Rattle.gsi_word.specs.Blocks.{width_of, word_bytes, AreWords, BeginsBlock}

-- The byte at this place, from 1, is the first that may not stand in a line.
pub record IsByteFault (line : List ℕ) (at : ℕ) : Type 0 where
  pub front : List ℕ
  pub byte : ℕ
  pub rest : List ℕ
  pub text : line ≡ front ++ byte ∷ rest
  pub place : at ≡ length front + 1
  pub before : All IsLineByte front
  pub fault : ¬ IsLineByte byte

-- A word ends where the bytes end, or before a blank.
abbrev pub EndsWord : List ℕ → Type 0
EndsWord [] = ⊤
EndsWord (b ∷ bs) = b ≡ blank

-- The bytes begin with a word.
pub record BeginsWord (width : ℕ) (bytes : List ℕ) : Type 0 where
  pub word : GsiWord
  pub rest : List ℕ
  pub is_word : IsWord width word
  pub ends : EndsWord rest
  pub text : bytes ≡ spelled word ++ rest

-- A word and the blank after it.
abbrev pub followed : GsiWord → List ℕ
followed w = spelled w ++ blank ∷ []

-- The words before the nth, from 1, are each followed by a blank. No word begins after them, and
-- where there is at least one of them not all that is left is blank.
pub record IsWordFault (width : ℕ) (bytes : List ℕ) (nth : ℕ) : Type 0 where
  pub words : List GsiWord
  pub rest : List ℕ
  pub each : All (IsWord width) words
  pub text : bytes ≡ flat_map followed words ++ rest
  pub place : nth ≡ length words + 1
  pub fault : ¬ BeginsWord width rest
  pub goes_on : (words ≡ []) ⊎ Any (λ b. b ≢ blank) rest

-- The line is words, but the first is neither a point number nor a code number.
pub record IsFirstWordFault (line : List ℕ) : Type 0 where
  pub words : List GsiWord
  pub are_words : AreWords (width_of line) (word_bytes line) words
  pub fault : ¬ BeginsBlock words

-- The first fault of a line: a byte, else a word, else the first word.
abbrev pub IsLineFault : List ℕ → LineFault → Type 0
IsLineFault line (Byte at) = IsByteFault line at
IsLineFault line (Word nth) =
    All IsLineByte line × IsWordFault (width_of line) (word_bytes line) nth
IsLineFault line FirstWord = IsFirstWordFault line
