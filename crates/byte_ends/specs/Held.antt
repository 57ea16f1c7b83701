-- What a held sink holds and how it takes it.
use Rattle.std.specs.Prelude.{◌≡◌, ℕ, Bool, List}
use Rattle.byte_ends.specs.declared.held.Held.{Held}

-- The bytes that were written to it.
abbrev pub held_bytes : Held → List ℕ
held_bytes h = h.bytes.items

-- How many bytes it still takes.
abbrev pub held_room : Held → ℕ
held_room h = h.room

-- The most bytes that it takes for one write.
abbrev pub held_step : Held → ℕ
held_step h = h.step

-- Whether each flush fails.
abbrev pub held_flush_fails : Held → Bool
held_flush_fails h = h.flush_fails

-- Whether a call of it has failed.
abbrev pub has_failed : Held → Bool
has_failed h = h.has_failed

-- Whether all that was written is flushed.
abbrev pub is_flushed : Held → Bool
is_flushed h = h.is_flushed

-- It takes `room` bytes more, at most `step` of them for each write, and where `flush_fails` each
-- flush fails.
pub record IsSetTo (h : Held) (room step : ℕ) (flush_fails : Bool) : Type 0 where
  pub room_left : held_room h ≡ room
  pub step_kept : held_step h ≡ step
  pub fails_kept : held_flush_fails h ≡ flush_fails
