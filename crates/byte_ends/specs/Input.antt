-- What a source gives to a reader that takes it whole, up to a limit.
use Rattle.std.specs.Prelude.{ℕ, List, length, nat_lt, if◌then◌else◌}
use Rattle.byte_ends.specs.Source.{Told}

-- How a source comes to its end under a limit.
pub data Input : Type 0 where
  -- It gave these bytes in all, and then no more.
  Ended : List ℕ → Input
  -- It gave these bytes in all, and then a read failed.
  BrokeOff : List ℕ → Input
  -- It gave a byte more than the limit.
  RanPast : Input

-- How a source ends for a reader that stops after `limit` bytes: with more bytes than that it has
-- run past, whether or not it would fail later.
abbrev pub input_within : ℕ → Told → Input
input_within limit t =
    if nat_lt limit (length t.bytes) then RanPast
    else (if t.fails then BrokeOff t.bytes else Ended t.bytes)
