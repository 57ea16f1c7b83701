-- What came of the reader of a field file.
use Rattle.std.specs.Prelude.{ℕ, false, List, Result}
use Rattle.byte_ends.specs.Came.{BytesCame, Leaves}
use Rattle.byte_ends.specs.Source.{Told, ReaderChange}
use Rattle.gsi_file.specs.FileAnswers.{FileAnswers, file_answers}
use Rattle.station_check.specs.Answerable.{file_left}
use Rattle.station_check.specs.declared.fault.Fault.{Fault}

-- These lines came of a field file: those of the bytes that its reader gave and of what is left.
abbrev pub LinesCame : ReaderChange → (FileAnswers → Type 0) → Type 0
LinesCame reader So = BytesCame reader (λ gsi. So (file_answers gsi))

-- A field file was read for an answer: of the lines that came this is so, and its reader is left as
-- the answer says.
pub record ReadsFile {A : Type 0} (reader : ReaderChange) (r : Result A Fault)
    (So : FileAnswers → Type 0) : Type 0 where
  pub came : LinesCame reader So
  pub left : Leaves file_left r reader

-- what a source of these bytes gives: all of them, and then the end
abbrev pub source_of : List ℕ → Told
source_of bytes = record { bytes = bytes; fails = false }
