-- The errors of `csv` that a read of a sheet may meet.
use Rattle.std.specs.Prelude.{⊤}
use Rattle.csv.specs.declared.error.ErrorKind.{ErrorKind}
use Rattle.csv.specs.declared.error.ErrorKind.TheVariants as error

-- an error of `csv` that may come of a read of bytes in memory, as rows of any length: memory was
-- refused, or the input failed, which `csv` leaves open over any reader
abbrev pub IsMemoryOrInput : ErrorKind → Type 0
IsMemoryOrInput error.OutOfMemory = ⊤
IsMemoryOrInput (error.Io why) = ⊤
IsMemoryOrInput (error.Utf8 at why) = ⊥
IsMemoryOrInput (error.UnequalLengths at expected len) = ⊥
IsMemoryOrInput (error.Serialize why) = ⊥
IsMemoryOrInput (error.Deserialize at why) = ⊥
