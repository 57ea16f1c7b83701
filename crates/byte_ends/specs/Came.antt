-- What came of a source that is read to its end or up to a limit, and how it is left then.
use Rattle.std.specs.Prelude.{◌≡◌, ℕ, Bool, true, List, Option, Some, Result, Ok, Err, ⊤}
use Rattle.byte_ends.specs.Source.{Told, ReaderChange, Through, ended, broken_off}
use Rattle.byte_ends.specs.Input.{Input, BrokeOff, RanPast}
use Rattle.byte_ends.specs.declared.input.InputFault.{InputFault}
use Rattle.byte_ends.specs.declared.input.InputFault.TheVariants.{Read, TooLong, Memory}

-- These bytes came of a reader, by which its history has grown, and of them, and then whatever may
-- be left in it, this is so. Nothing is left where it has ended or broken off, and so the bytes are
-- all that came; where the reader tells its bytes, they are the first of those.
abbrev pub BytesCame : ReaderChange → (Told → Type 0) → Type 0
BytesCame reader So = Through reader (λ came left. So came)

-- Why the bytes of a source aren't had whole: a read failed, or there are too many, or there was no
-- memory.
abbrev pub ExplainsInput : Input → InputFault → Type 0
ExplainsInput input Read = (bytes : List ℕ) × (input ≡ BrokeOff bytes)
ExplainsInput input TooLong = input ≡ RanPast
ExplainsInput input Memory = ⊤

-- The source has given all its bytes and has ended, and no read of it failed.
pub record IsReadOut (reader : ReaderChange) : Type 0 where
  pub ended : reader.told' ≡ Some ended
  pub unfailed : reader.failed' ≡ reader.failed

-- A read of the source failed, and it has broken off.
pub record HasBroken (reader : ReaderChange) : Type 0 where
  pub broken : reader.told' ≡ Some broken_off
  pub failed : reader.failed' ≡ true

-- No read of the source failed.
abbrev pub NoReadFailed : ReaderChange → Type 0
NoReadFailed reader = reader.failed' ≡ reader.failed

-- The source was not asked: it is as it was.
pub record IsUnasked (reader : ReaderChange) : Type 0 where
  pub same : reader.is_unasked
  pub unfailed : NoReadFailed reader

-- How a source may be left.
pub data Leaving : Type 0 where
  -- It was not asked.
  Unasked : Leaving
  -- It has ended.
  ReadOut : Leaving
  -- A read of it failed, and it has broken off.
  BrokenOff : Leaving
  -- No read of it failed.
  Unfailed : Leaving
  -- Nothing is known of it.
  Unknown : Leaving

-- A source is left so.
abbrev pub IsLeftAs : Leaving → ReaderChange → Type 0
IsLeftAs Unasked reader = IsUnasked reader
IsLeftAs ReadOut reader = IsReadOut reader
IsLeftAs BrokenOff reader = HasBroken reader
IsLeftAs Unfailed reader = NoReadFailed reader
IsLeftAs Unknown reader = ⊤

-- How an answer leaves a source: it has ended where there is no fault, and else it is left as each
-- fault leaves it.
abbrev pub Leaves : {A F : Type 0} → (F → Leaving) → Result A F → ReaderChange → Type 0
Leaves left_at (Ok x) reader = IsReadOut reader
Leaves left_at (Err fault) reader = IsLeftAs (left_at fault) reader

-- How a source is left whose bytes aren't had whole: where a read failed it has broken off, and no
-- read failed elsewhere.
abbrev pub input_left : InputFault → Leaving
input_left Read = BrokenOff
input_left TooLong = Unfailed
input_left Memory = Unfailed
