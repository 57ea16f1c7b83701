-- The reader that an `OfRead` asks, and what is known of it.
use Rattle.std.specs.Prelude.{ℕ, Bool, true, false, ◌==◌, not, ◌&&◌, Option, Some, None, Result, Ok}
use Rattle.std.specs.Prelude.{Err, if◌then◌else◌}
use Rattle.byte_ends.specs.declared.of_read.OfRead.{OfRead}
use Rattle.byte_ends.specs.declared.of_read.State.{State}
use Rattle.byte_ends.specs.declared.of_read.State.TheVariants.{Open, Ended, BrokenOff}
use Rattle.byte_ends.specs.Source.{Told, ended, broken_off}

-- The reader that it asks.
abbrev pub reader_of : {R : Type 0} → OfRead R → R
reader_of s = s.reader

-- A new one: its reader, of which more may come, and nothing else. So there is nothing beside the
-- state by which its reads could go.
abbrev pub made_of : {R : Type 0} → R → OfRead R
made_of reader = record { reader = reader; state = Open }

-- What it tells in a state: nothing, until the reader has ended or failed.
abbrev pub told_in : State → Option Told
told_in Open = None
told_in Ended = Some ended
told_in BrokenOff = Some broken_off

-- Whether a read has failed, in a state.
abbrev pub failed_in : State → Bool
failed_in Open = false
failed_in Ended = false
failed_in BrokenOff = true

-- What it tells.
abbrev pub read_told : {R : Type 0} → OfRead R → Option Told
read_told s = told_in s.state

-- Whether a read of it has failed.
abbrev pub read_failed : {R : Type 0} → OfRead R → Bool
read_failed s = failed_in s.state

-- What it tells after a read of a reader that was not over: a read that gave bytes, or had no room,
-- is no end.
abbrev pub told_after : {E : Type 0} → Result ℕ E → ℕ → Option Told
told_after (Ok n) room = if n == 0 && not (room == 0) then Some ended else None
told_after (Err e) room = Some broken_off
