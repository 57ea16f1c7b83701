-- Where the words of a line and the parts of a word lie in their bytes: how the code finds and
-- keeps them. What they mean is said in Words and Blocks.
use Rattle.std.specs.Prelude.{◌≡◌, ℕ, zero, suc, ◌+◌, ◌-◌, ◌*◌, ◌<◌, ◌≤◌, Bool, ◌&&◌, ◌||◌, not}
use Rattle.std.specs.Prelude.{nat_le, ◌==◌, IsTrue, List, [], ◌∷◌, length, take, drop, slice_index}
use Rattle.std.specs.Char.{is_ascii_digit}
use Rattle.std.specs.Int.{is_in_range}
use Rattle.std.specs.List.{list_any}
use Rattle.gsi_word.specs.declared.word.TheConstants.{GSI_8, GSI_16}
use Rattle.gsi_word.specs.Bytes.{blank, plus, minus, zero_digit, nine_digit}
use Rattle.gsi_word.specs.Words.{GsiWord, IsWord}

-- The word that these bytes are.
abbrev pub word_of : List ℕ → GsiWord
word_of bytes = record {
  index = 10 * (slice_index bytes 0 - zero_digit) + (slice_index bytes 1 - zero_digit);
  info = take 4 (drop 2 bytes);
  negative = slice_index bytes 6 == minus;
  content = drop 7 bytes;
}

-- Whether a byte may stand in a line.
abbrev pub is_printable : ℕ → Bool
is_printable b = is_in_range blank 126 b

-- Whether printable bytes begin with a word of this width that ends them or has a blank after it.
unfoldable pub begins_word : ℕ → List ℕ → Bool
begins_word width bytes =
    nat_le (7 + width) (length bytes)
    && (is_ascii_digit (slice_index bytes 0) && (is_ascii_digit (slice_index bytes 1)
    && (not (list_any (λ b. b == blank) (take 4 (drop 2 bytes)))
    && ((slice_index bytes 6 == plus || slice_index bytes 6 == minus)
    && (length bytes == 7 + width || slice_index bytes (7 + width) == blank)))))

-- The first words of some bytes, each with its blank.
abbrev pub words_from : ℕ → ℕ → List ℕ → List GsiWord
words_from width zero bytes = []
words_from width (suc n) bytes =
    word_of (take (7 + width) bytes) ∷ words_from width n (drop (8 + width) bytes)

-- GSI-8 or GSI-16.
abbrev pub is_width : ℕ → Bool
is_width width = width == GSI_8 || width == GSI_16

-- Two digits stand first.
pub record HasIndex (bytes : List ℕ) : Type 0 where
  pub long : 2 ≤ length bytes
  pub tens : (zero_digit ≤ slice_index bytes 0) × (slice_index bytes 0 ≤ nine_digit)
  pub ones : (zero_digit ≤ slice_index bytes 1) × (slice_index bytes 1 ≤ nine_digit)

-- All bytes of one word.
pub record IsWordBytes (width : ℕ) (bytes : List ℕ) : Type 0 where
  pub len : length bytes ≡ 7 + width
  pub digits : HasIndex bytes
  pub word : IsWord width (word_of bytes)

-- All bytes of a word of either width.
pub record IsWholeWord (bytes : List ℕ) : Type 0 where
  pub long : 7 ≤ length bytes
  pub width_known : IsTrue (is_width (length bytes - 7))
  pub word : IsWordBytes (length bytes - 7) bytes

-- Words stand one after another, each with a blank between.
pub record KeepsWords (width : ℕ) (bytes : List ℕ) (count : ℕ) : Type 0 where
  pub width_known : IsTrue (is_width width)
  pub some_word : 0 < count
  pub room : (8 + width) * count ≤ length bytes + 1
  pub each : (i : ℕ) → i < count
      → IsWordBytes width (take (7 + width) (drop ((8 + width) * i) bytes))
