-- What an answer of a field file says of its reader.
use Rattle.std.specs.Prelude.{Result}
use Rattle.byte_ends.specs.Came.{Leaves}
use Rattle.byte_ends.specs.Source.{ReaderChange}
use Rattle.gsi_file.specs.FileAnswers.{FileAnswers}
use Rattle.station_check.specs.Came.{LinesCame}
use Rattle.station_compare.specs.Answers.{field_file_left}
use Rattle.station_compare.specs.declared.fault.CompareFault.{CompareFault}

-- A field file was read for an answer: of the lines that came this is so, and its reader is left as
-- the answer says.
pub record ReadsFieldFile {A : Type 0} (gsi : ReaderChange) (r : Result A CompareFault)
    (So : FileAnswers → Type 0) : Type 0 where
  pub came : LinesCame gsi So
  pub left : Leaves field_file_left r gsi
