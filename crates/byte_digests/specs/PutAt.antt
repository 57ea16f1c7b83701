-- A text that is put into a slice.
use Rattle.std.specs.Prelude.{◌≡◌, ◌+◌, ◌≤◌, ◌++◌, ℕ, List, length, take, drop}

-- The text stands in the slice from this place on up to its end, between what stood before the
-- place and after the end.
pub record IsPut (text : List ℕ) (at : ℕ) (old new : List ℕ) (end : ℕ) : Type 0 where
  pub ends : end ≡ at + length text
  pub fits : end ≤ length old
  pub stands : take end new ≡ take at old ++ text
  pub rest : drop end new ≡ drop end old
