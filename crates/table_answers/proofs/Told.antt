-- What was told of a refusal.
use Rattle.std.proofs.Common.{ℕ, List, [], ◌∷◌, ◌++◌}
use Rattle.byte_ends.specs.Sink.{WriterChange}
use Rattle.station_check.specs.RunEndings.{Tells, WritesOrFails}
use Rattle.station_compare.specs.Refusals.{refusal_text}
use Rattle.station_compare.specs.declared.refusal.Refusal.{Refusal}

-- The text of a refusal is not empty, whatever note stands before it.
pub text_told : (note : List ℕ) (refusal : Refusal) (writer : WriterChange)
    → WritesOrFails (note ++ refusal_text refusal) writer
    → Tells (note ++ refusal_text refusal) writer
text_told [] refusal writer h = h
text_told (byte ∷ note) refusal writer h = h
