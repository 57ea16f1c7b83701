-- The name or code that a content holds (GSI manual: the instrument fills the content with zeros
-- from the left).
use Rattle.std.specs.Prelude.{◌≡◌, ◌≢◌, ◌==◌, ℕ, ◌<◌, List, [], ◌∷◌, ◌++◌, length, replicate}
use Rattle.std.specs.Prelude.{if◌then◌else◌, Some, slice_get, ◌⊎◌}
use Rattle.gsi_word.specs.Bytes.{zero_digit}

-- The content without the zeros before it, at least one byte kept.
abbrev pub name_of : List ℕ → List ℕ
name_of [] = []
name_of (b ∷ []) = b ∷ []
name_of (b ∷ c ∷ bytes) = if b == zero_digit then name_of (c ∷ bytes) else b ∷ c ∷ bytes

-- The content is some zeros and then this name, which is not empty, and is `0` or does not begin
-- with `0`.
pub record IsNameIn (content name : List ℕ) : Type 0 where
  pub zeros : ℕ
  pub text : content ≡ replicate zeros zero_digit ++ name
  pub some_byte : 0 < length name
  pub bare : (name ≡ zero_digit ∷ []) ⊎ (slice_get name 0 ≢ Some zero_digit)
