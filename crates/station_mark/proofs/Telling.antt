-- Notes that were written.
use Rattle.std.proofs.Common.{ℕ, List, [], ◌∷◌, ◌++◌}
use Rattle.byte_ends.specs.Sink.{WriterChange}
use Rattle.station_check.specs.RunEndings.{Tells, WritesOrFails}

-- A text that some byte ends is no empty one.
pub told : (front : List ℕ) (byte : ℕ) (rest : List ℕ) (writer : WriterChange)
    → WritesOrFails (front ++ byte ∷ rest) writer → Tells (front ++ byte ∷ rest) writer
told [] byte rest writer h = h
told (first ∷ front) byte rest writer h = h
