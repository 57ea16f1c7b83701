-- What is left of a text that memory ran out for.
use Rattle.std.specs.Prelude.{◌≡◌, ℕ, List, ◌++◌, take}

-- So many of the first bytes of a text were added: perhaps none, and perhaps all.
pub record IsBegun (text old new : List ℕ) : Type 0 where
  pub count : ℕ
  pub added : new ≡ old ++ take count text
