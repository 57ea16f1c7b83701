-- The writer that an `OfWrite` writes to.
use Rattle.std.specs.Prelude.{Bool, true, false}
use Rattle.byte_ends.specs.declared.of_write.OfWrite.{OfWrite}

-- The writer that it writes to.
abbrev pub writer_of : {W : Type 0} → OfWrite W → W
writer_of s = s.writer

-- A new one: its writer, of which no call has failed and from which nothing is held back, and
-- nothing else. So there is nothing beside these two by which its writes could go.
abbrev pub made_of : {W : Type 0} → W → OfWrite W
made_of writer = record { writer = writer; has_failed = false; is_flushed = true }

-- Whether a call of it has failed.
abbrev pub has_failed : {W : Type 0} → OfWrite W → Bool
has_failed s = s.has_failed

-- Whether all that was written is flushed.
abbrev pub is_flushed : {W : Type 0} → OfWrite W → Bool
is_flushed s = s.is_flushed
