-- What is taken of the lines of a file, one by one.
use Rattle.std.specs.Prelude.{◌≡◌, false, Option, Some, None, ⊤, Result, Ok, Err}
use Rattle.gsi_word.specs.Blocks.{GsiBlock}
use Rattle.station_book.specs.Blocks.{role_of}
use Rattle.station_book.specs.Readings.{read}
use Rattle.station_book.specs.declared.role.Role.TheVariants.{Measurement}
use Rattle.station_book.specs.declared.angles.Reading.{Reading}
use Rattle.station_book.specs.declared.fault.BookKind.{BookKind}
use Rattle.set_marks.specs.declared.fault.MarkFault.{MarkFault}
use Rattle.set_marks.specs.declared.readings.Readings.{Readings}
use Rattle.set_marks.specs.declared.walk.Walk.{Walk}
use Rattle.set_marks.specs.Stations.{is_two_lines}

-- What may be known of a block before it is taken: it is one line and a measurement, and this is
-- what it says.
abbrev pub IsKnown : Option (Result (Option Reading) BookKind) → GsiBlock → Type 0
IsKnown None b = ⊤
IsKnown (Some said) b =
    (is_two_lines b ≡ false) × ((role_of b ≡ Measurement) × (said ≡ read b))

-- the readings that were taken, or why there are none
abbrev pub readings_in : Result Walk MarkFault → Result Readings MarkFault
readings_in (Ok walk) = Ok walk.readings
readings_in (Err fault) = Err fault
