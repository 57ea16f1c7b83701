-- What a write does to a sink.
use Rattle.std.specs.Io.KnownBytes.{Appends}
use Rattle.std.specs.Prelude.{◌≡◌, ℕ, zero, suc, ◌<◌, ◌≤◌, Bool, true, false, List, take, ⊤, Option}
use Rattle.std.specs.Prelude.{Result, Ok, Err}

-- A write takes at most the bytes that it was given, and of some bytes at least one.
abbrev pub TakesSome : {E : Type 0} → Result ℕ E → ℕ → Type 0
TakesSome (Ok n) len = (n ≤ len) × (0 < len → 0 < n)
TakesSome (Err e) len = ⊤

-- Whether a call has failed by now: a failed call is never forgotten.
abbrev pub failed_after : {T E : Type 0} → Bool → Result T E → Bool
failed_after old (Ok x) = old
failed_after old (Err e) = true

-- Whether all that was written is flushed after so many more bytes were taken: only where none
-- was.
abbrev pub flushed_after : Bool → ℕ → Bool
flushed_after old zero = old
flushed_after old (suc n) = false

-- The same after a write: one that failed took no byte.
abbrev pub flushed_by_write : {E : Type 0} → Bool → Result ℕ E → Bool
flushed_by_write old (Ok n) = flushed_after old n
flushed_by_write old (Err e) = old

-- The same after a flush: one that failed flushed nothing.
abbrev pub flushed_by_flush : {T E : Type 0} → Bool → Result T E → Bool
flushed_by_flush old (Ok x) = true
flushed_by_flush old (Err e) = old

-- Known bytes grow by some of the first of these bytes.
abbrev pub AppendsSome : Option (List ℕ) → Option (List ℕ) → List ℕ → Type 0
AppendsSome old new bytes = (n : ℕ) × Appends old new (take n bytes)

-- What happened to a writer: what it held and holds, whether a call of it had failed and has, and
-- whether all that was written to it is flushed by now.
pub record WriterChange : Type 1 where
  pub holds : Option (List ℕ)
  pub holds' : Option (List ℕ)
  pub failed : Bool
  pub failed' : Bool
  pub is_flushed : Bool
  -- It is as it was, in all that it is.
  pub is_unasked : Type 0
