-- What comes of a table's input, for its station.
use Rattle.std.specs.Prelude.{ℕ, List}
use Rattle.byte_ends.specs.Input.{Input, Ended, BrokeOff, RanPast}

-- The input ended, and this is said of its bytes.
abbrev pub SaysOfInput : {V : Type 0} → (List ℕ → V → Type 0) → Input → V → Type 0
SaysOfInput Says (Ended bytes) value = Says bytes value
SaysOfInput Says (BrokeOff bytes) value = ⊥
SaysOfInput Says RanPast value = ⊥
