-- A word of a GSI line, and the bytes that it is written with (GSI manual).
use Rattle.std.specs.Prelude.{◌≡◌, ℕ, ◌+◌, ◌/◌, ◌%◌, ◌<◌, ◌≤◌, Bool, List, ◌∷◌, ◌++◌, length, All}
use Rattle.std.specs.Prelude.{if◌then◌else◌}
use Rattle.gsi_word.specs.Bytes.{blank, plus, minus, zero_digit}

-- What a word says: its index, its information, whether its sign is minus, and its content.
pub record GsiWord : Type 0 where
  pub index : ℕ
  pub info : List ℕ
  pub negative : Bool
  pub content : List ℕ

-- A byte that may stand in a line: a blank or a visible character of ASCII.
abbrev pub IsLineByte : ℕ → Type 0
IsLineByte b = (blank ≤ b) × (b ≤ 126)

-- A byte that may stand in the information of a word: a visible character of ASCII.
abbrev pub IsGraphic : ℕ → Type 0
IsGraphic b = (33 ≤ b) × (b ≤ 126)

-- A word of this width has an index of two digits, four bytes of information and `width` bytes of
-- content.
pub record IsWord (width : ℕ) (w : GsiWord) : Type 0 where
  pub index : w.index < 100
  pub info_length : length w.info ≡ 4
  pub info : All IsGraphic w.info
  pub content_length : length w.content ≡ width
  pub content : All IsLineByte w.content

-- `-` or `+`.
abbrev pub sign_byte : Bool → ℕ
sign_byte negative = if negative then minus else plus

-- The bytes of a word: two digits of its index, the information, the sign, the content.
abbrev pub spelled : GsiWord → List ℕ
spelled w =
    (zero_digit + w.index / 10) ∷ (zero_digit + w.index % 10)
    ∷ (w.info ++ sign_byte w.negative ∷ w.content)
