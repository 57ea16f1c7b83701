-- What a source tells, and what a read does to it. To tell is to let contracts know the bytes that
-- are still to come, beforehand: a slice does, a file does not.
use Rattle.std.specs.Prelude.{◌≡◌, ℕ, ◌<◌, Bool, true, false, List, [], ◌++◌, length, take, ⊤}
use Rattle.std.specs.Prelude.{Option, Some, None, IfSome, Result, Ok, Err}

-- The bytes that a source still gives, and whether it then fails.
pub record Told : Type 0 where
  pub bytes : List ℕ
  pub fails : Bool

-- The source has given all its bytes, and ends.
abbrev pub HasEnded : Told → Type 0
HasEnded t = (t.bytes ≡ []) × (t.fails ≡ false)

-- The source has given all its bytes, and fails.
abbrev pub HasBrokenOff : Told → Type 0
HasBrokenOff t = (t.bytes ≡ []) × (t.fails ≡ true)

-- A source that told before still tells, and this holds of what it tells then and now; or it told
-- nothing.
abbrev pub WhereTold : {A B : Type 0} → Option A → Option B → (A → B → Type 0) → Type 0
WhereTold None new P = ⊤
WhereTold (Some old) None P = ⊥
WhereTold (Some old) (Some new) P = P old new

-- The bytes given are the next ones, and with some room none are given only at the end of a source
-- that doesn't fail.
pub record Gives (old new : Told) (given : List ℕ) (room : ℕ) : Type 0 where
  pub next : old.bytes ≡ given ++ new.bytes
  pub same : new.fails ≡ old.fails
  pub end : given ≡ [] → 0 < room → HasEnded new

-- Nothing is given: a read fails only at the end of a source that fails.
pub record Fails (old new : Told) : Type 0 where
  pub unchanged : new ≡ old
  pub end : HasBrokenOff new

-- What a read into this buffer did to a source that tells.
abbrev pub AfterRead : {E : Type 0} → Told → Told → Result ℕ E → List ℕ → Type 0
AfterRead old new (Ok n) buf = Gives old new (take n buf) (length buf)
AfterRead old new (Err e) buf = Fails old new

-- What a read into this buffer did, where the source tells.
abbrev pub Reads : {E : Type 0} → Option Told → Option Told → Result ℕ E → List ℕ → Type 0
Reads old new r buf = WhereTold old new (λ o n. AfterRead o n r buf)

-- No byte is left, and the source ends.
abbrev pub ended : Told
ended = record { bytes = []; fails = false }

-- No byte is left, and the source fails.
abbrev pub broken_off : Told
broken_off = record { bytes = []; fails = true }

-- From an end, of a read with some room, or a failure on, every source tells it: no byte comes
-- after, but the same end or failure again.
abbrev pub TellsOver : {E : Type 0} → Option Told → Result ℕ E → ℕ → Type 0
TellsOver new (Ok n) room = n ≡ 0 → 0 < room → new ≡ Some ended
TellsOver new (Err e) room = new ≡ Some broken_off

-- The source may still give these bytes and this end: where it tells, what it tells and no other.
abbrev pub MayGive : Option Told → Told → Type 0
MayGive told gives = IfSome told (λ known. gives ≡ known)

-- The bytes that a read into this buffer gave.
abbrev pub given_by : {E : Type 0} → Result ℕ E → List ℕ → List ℕ
given_by (Ok n) buf = take n buf
given_by (Err e) buf = []

-- Histories have grown by these bytes: whatever a source may have given by one of them, by this
-- number, it has then given that and these.
abbrev pub Adds : (ℕ → List ℕ → Type 0) → (ℕ → List ℕ → Type 0) → List ℕ → Type 0
Adds gave gave' bytes =
    (history : ℕ) (given : List ℕ) → gave history given → gave' history (given ++ bytes)

-- What happened to a reader: what it told and tells, whether a read of it had failed and has, and
-- its histories before and after.
pub record ReaderChange : Type 1 where
  pub told : Option Told
  pub told' : Option Told
  pub failed : Bool
  pub failed' : Bool
  pub gave : ℕ → List ℕ → Type 0
  pub gave' : ℕ → List ℕ → Type 0
  -- It is as it was, in all that it is.
  pub is_unasked : Type 0

-- What happened to this reader, which was `old` and is `new`.
abbrev pub reader_change : {S : Type 0} → (S → Option Told) → (S → Bool)
    → (S → ℕ → List ℕ → Type 0) → S → S → ReaderChange
reader_change told failed gave old new = record {
  told = told old;
  told' = told new;
  failed = failed old;
  failed' = failed new;
  gave = gave old;
  gave' = gave new;
  is_unasked = new ≡ old;
}

-- A reader was taken in, and what happened to it until it was dropped is so: of some state in which
-- it may have been dropped. So an answer that memory ran out tells nothing of its reads; a call that
-- gives the reader back does.
abbrev pub UntilDropped : {S : Type 0} → (S → Option Told) → (S → Bool)
    → (S → ℕ → List ℕ → Type 0) → S → (ReaderChange → Type 0) → Type 0
UntilDropped {S} told failed gave taken P =
    (dropped : S) × P (reader_change told failed gave taken dropped)

-- These bytes, and then what is left.
abbrev pub given_then : List ℕ → Told → Told
given_then given left = record { bytes = given ++ left.bytes; fails = left.fails }

-- By some reads a source has given these bytes: its histories have grown by them, and whatever it
-- may give after the reads, it might give these bytes and then that before them.
pub record HasGiven (reader : ReaderChange) (given : List ℕ) : Type 0 where
  pub adds : Adds reader.gave reader.gave' given
  pub might : (left : Told) → MayGive reader.told' left
      → MayGive reader.told (given_then given left)

-- Some reads gave bytes, so that this holds of them with whatever may be left, and of that.
pub record Through (reader : ReaderChange) (P : Told → Told → Type 0) : Type 0 where
  pub given : List ℕ
  pub by_reads : HasGiven reader given
  pub so : (left : Told) → MayGive reader.told' left → P (given_then given left) left
