-- What is kept of a reader that is read to its end, or past a limit.
use Rattle.std.specs.Prelude.{ℕ, ◌<◌, ◌⊎◌, Bool, true, false, List, length}
use Rattle.byte_ends.specs.Came.{IsReadOut, HasBroken, NoReadFailed}
use Rattle.byte_ends.specs.Source.{ReaderChange, HasGiven}

-- How a reader that gave so many bytes is left: a read of it failed; or it has ended; or the bytes
-- are more than the limit.
abbrev pub IsLeft : ℕ → ℕ → Bool → ReaderChange → Type 0
IsLeft most count true reader = HasBroken reader
IsLeft most count false reader =
    IsReadOut reader ⊎ ((most < count) × NoReadFailed reader)

-- All that a reader gave is kept, up to its end, to a failed read, or past the limit.
pub record IsAllGiven (most : ℕ) (reader : ReaderChange) (bytes : List ℕ) (fails : Bool)
    : Type 0 where
  pub reads : HasGiven reader bytes
  pub left : IsLeft most (length bytes) fails reader
