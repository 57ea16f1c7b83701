-- What is answered of a field file and of a table of directions, and how their readers are left.
use Rattle.std.specs.Prelude.{ℕ, List, Option, Result, Ok, Err, ⊤}
use Rattle.byte_ends.specs.Came.{Leaving, Unasked, ReadOut, BrokenOff, Unfailed}
use Rattle.byte_ends.specs.Input.{input_within}
use Rattle.byte_ends.specs.Source.{Told}
use Rattle.direction_table.specs.declared.fault.TableFault.TheVariants as table
use Rattle.direction_table.specs.declared.reading.TheConstants.{LONGEST_TABLE}
use Rattle.gsi_file.specs.FileAnswers.{FileAnswers}
use Rattle.station_book.specs.declared.result_limits.ResultLimits.{ResultLimits}
use Rattle.station_book.specs.Stations.{SurveyedStation}
use Rattle.station_check.specs.Answerable.{file_left}
use Rattle.station_check.specs.Means.{HasNoStation}
use Rattle.station_check.specs.Outcomes.{FileComesTo}
use Rattle.station_check.specs.StationOfFile.{IsStationOfFile}
use Rattle.station_check.specs.declared.fault.Fault.TheVariants.{NoStation}
use Rattle.station_compare.specs.Agreeing.{Agrees}
use Rattle.station_compare.specs.Comparing.{ByInput}
use Rattle.station_compare.specs.declared.agreement.Agreement.{Agreement}
use Rattle.station_compare.specs.declared.fault.CompareFault.{CompareFault}
use Rattle.station_compare.specs.declared.fault.CompareFault.TheVariants.{File, TableRead, Table}
use Rattle.station_compare.specs.declared.fault.CompareFault.TheVariants.{Adjust, Apart, Memory}
use Rattle.direction_table.specs.declared.form.TableForm.{TableForm}

-- The file has a station of this name, and with what came of the table's reader this is the fault.
pub record IsRefusedByTable (form : TableForm) (limits : ResultLimits) (file : FileAnswers)
    (stated : Told)
    (name : List ℕ) (within : Option ℕ) (fault : CompareFault) : Type 0 where
  pub its : SurveyedStation
  pub station : IsStationOfFile limits.faces file name its
  pub by_input : ByInput form its.station limits.residual within
      (input_within LONGEST_TABLE stated) (Err fault)

-- What is answered, for the station of a name: that the table agrees; or the first fault that
-- stands, in the order of the file, the station, the table, the adjustment and how far they are
-- apart.
abbrev pub Compares : TableForm → ResultLimits → FileAnswers → Told → List ℕ → Option ℕ
    → Result Agreement CompareFault → Type 0
Compares form limits file stated name within (Ok a) = Agrees form limits file stated name within a
Compares form limits file stated name within (Err (File NoStation)) =
    HasNoStation limits.faces file name
Compares form limits file stated name within (Err (File fault)) =
    FileComesTo limits.faces file (Err fault)
Compares form limits file stated name within (Err Memory) = ⊤
Compares form limits file stated name within (Err fault) =
    IsRefusedByTable form limits file stated name within fault

-- How a fault leaves the table's reader: at one of the field file, or where that has no station of
-- the name, it was not asked; at `TableRead` a read of it failed, and it has broken off; at a fault
-- of its bytes, but that there are too many, and at each that comes after, it has ended; and no
-- read failed at any other.
abbrev pub table_left : CompareFault → Leaving
table_left (File fault) = Unasked
table_left TableRead = BrokenOff
table_left (Table (table.Columns first second)) = ReadOut
table_left (Table (table.Row number kind)) = ReadOut
table_left (Table (table.Missing target)) = ReadOut
table_left (Adjust fault) = ReadOut
table_left (Apart how_far) = ReadOut
table_left fault = Unfailed

-- How a fault leaves the field file's reader: as its own fault says; where memory ran out no read
-- failed; and else it has ended.
abbrev pub field_file_left : CompareFault → Leaving
field_file_left (File fault) = file_left fault
field_file_left Memory = Unfailed
field_file_left fault = ReadOut
