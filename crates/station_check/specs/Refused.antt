-- What the refusal of a sheet says.
use Rattle.std.specs.Prelude.{◌≡◌, ◌≢◌, ◌⊎◌, ℕ, List, Option, Some, Result, Err, ⊤}
use Rattle.std.specs.List.{Contains}
use Rattle.byte_ends.specs.Source.{Told}
use Rattle.byte_ends.specs.Input.{Input, input_within, Ended, BrokeOff, RanPast}
use Rattle.gsi_file.specs.FileAnswers.{FileAnswers}
use Rattle.adjust_kernel.specs.Promises.{TellsOfSquares}
use Rattle.adjust_kernel.specs.Sheets.{SheetValue}
use Rattle.adjust_kernel.specs.Verdict.{IsVerdict}
use Rattle.adjust_kernel.specs.declared.accepted.Accepted.{Accepted}
use Rattle.adjust_kernel.specs.declared.kernel_fault.KernelFault.{KernelFault}
use Rattle.sheet_format.specs.Faults.{IsSheetFault}
use Rattle.sheet_format.specs.declared.fault.SheetFault.{SheetFault}
use Rattle.sheet_format.specs.declared.fault.SheetFault.TheVariants as sheet
use Rattle.sheet_format.specs.declared.reading.TheConstants.{LONGEST_SHEET}
use Rattle.station_book.specs.Limits.{FaceLimits}
use Rattle.station_book.specs.Stations.{SurveyedStation, station_named}
use Rattle.station_check.specs.declared.fault.Fault.{Fault}
use Rattle.station_check.specs.declared.fault.Fault.TheVariants.{Gsi, Book, SheetRead, Sheet}
use Rattle.station_check.specs.declared.fault.Fault.TheVariants.{NoStation, Kernel, Memory}
use Rattle.station_check.specs.Accepted.{StatesSheet}
use Rattle.station_check.specs.FirstFault.{IsFirstFault}
use Rattle.station_check.specs.Outcomes.{FileComesTo}
use Rattle.station_check.specs.Surveys.{IsSurvey}

-- A fault of the field file is its first, whatever the sheet is.
abbrev pub TellsOfFile : FaceLimits → FileAnswers → Fault → Type 0
TellsOfFile limits file (Gsi fault) = IsFirstFault limits file (Gsi fault)
TellsOfFile limits file (Book fault) = IsFirstFault limits file (Book fault)
TellsOfFile limits file fault = ⊤

-- Where the field file comes to a fault, that is the answer, whatever the sheet is, unless there
-- was no memory.
abbrev pub IsFileFirst : FaceLimits → FileAnswers → Result Accepted Fault → Type 0
IsFileFirst limits file r =
    (fault : Fault) → FileComesTo limits file (Err fault)
    → (r ≡ Err Memory) ⊎ (r ≡ Err fault)

-- The sheet's reader gave these bytes, no more than a sheet may have, and then failed.
abbrev pub SheetBreaksOff : Told → Type 0
SheetBreaksOff source = (bytes : List ℕ) × (input_within LONGEST_SHEET source ≡ BrokeOff bytes)

-- This is the first fault of what came of the sheet's reader: there are too many bytes, or it is
-- that of the bytes.
abbrev pub IsFaultOfInput : Input → SheetFault → Type 0
IsFaultOfInput (Ended bytes) fault = IsSheetFault bytes fault
IsFaultOfInput (BrokeOff bytes) fault = ⊥
IsFaultOfInput RanPast fault = fault ≡ sheet.TooLong

-- A read of the sheet failed.
pub record IsRefusedByRead (limits : FaceLimits) (file : FileAnswers) (source : Told) : Type 0 where
  -- The field file ended without a fault, and has these stations.
  pub stations : List SurveyedStation
  pub survey : IsSurvey limits file stations
  pub broke_off : SheetBreaksOff source

-- The sheet's bytes have this first fault.
pub record IsRefusedByText (limits : FaceLimits) (file : FileAnswers) (source : Told)
    (fault : SheetFault)
    : Type 0 where
  -- The field file ended without a fault, and has these stations.
  pub stations : List SurveyedStation
  pub survey : IsSurvey limits file stations
  pub first : IsFaultOfInput (input_within LONGEST_SHEET source) fault

-- The field file has no station of the sheet's name.
pub record IsRefusedByName (limits : FaceLimits) (file : FileAnswers) (source : Told) : Type 0 where
  -- The field file ended without a fault, and has these stations.
  pub stations : List SurveyedStation
  pub survey : IsSurvey limits file stations
  -- The sheet was read to its end, and its bytes state this sheet.
  pub sheet : SheetValue
  pub states : StatesSheet source sheet
  -- None of the stations has its name.
  pub absent : (other : SurveyedStation) → Contains stations other
      → other.station.name ≢ sheet.name

-- The kernel refuses the sheet with this fault.
pub record IsRefusedByKernel (limits : FaceLimits) (limit : Option ℕ) (file : FileAnswers)
    (source : Told) (fault : KernelFault) : Type 0 where
  -- The field file ended without a fault, and has these stations.
  pub stations : List SurveyedStation
  pub survey : IsSurvey limits file stations
  -- The sheet was read to its end, and its bytes state this sheet.
  pub sheet : SheetValue
  pub states : StatesSheet source sheet
  -- The fault is the first that stands of the sheet and the station of its name.
  pub its : SurveyedStation
  pub named : station_named sheet.name stations ≡ Some its
  pub first : IsVerdict its.station sheet limit (Err fault)
  -- Where a sum is not 0, some other choice of directions and orientations has a smaller sum of
  -- squares; where nothing holds the sets and targets together, another has the same.
  pub squares : TellsOfSquares its.station sheet limit (Err fault)

-- What a refusal tells, fault by fault.
abbrev pub TellsOfRefusal : FaceLimits → Option ℕ → FileAnswers → Told → Fault → Type 0
TellsOfRefusal limits limit file source (Gsi fault) = TellsOfFile limits file (Gsi fault)
TellsOfRefusal limits limit file source (Book fault) = TellsOfFile limits file (Book fault)
TellsOfRefusal limits limit file source SheetRead = IsRefusedByRead limits file source
TellsOfRefusal limits limit file source (Sheet fault) = IsRefusedByText limits file source fault
TellsOfRefusal limits limit file source NoStation = IsRefusedByName limits file source
TellsOfRefusal limits limit file source (Kernel fault) =
    IsRefusedByKernel limits limit file source fault
TellsOfRefusal limits limit file source Memory = ⊤
TellsOfRefusal limits limit file source fault = ⊥
