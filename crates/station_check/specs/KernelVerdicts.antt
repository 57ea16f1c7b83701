-- The kernel's verdict on a sheet, as it came about.
use Rattle.std.specs.Prelude.{◌≡◌, ◌⊎◌, ℕ, List, Option, Some, Result, Ok, Err, OnOk, ⊤}
use Rattle.byte_ends.specs.Source.{Told}
use Rattle.byte_ends.specs.Input.{input_within}
use Rattle.adjust_kernel.specs.Matching.{Matches}
use Rattle.adjust_kernel.specs.Promises.{TellsOfSquares}
use Rattle.adjust_kernel.specs.Sheets.{SheetValue}
use Rattle.adjust_kernel.specs.Verdict.{IsVerdict}
use Rattle.adjust_kernel.specs.declared.accepted.Accepted.{Accepted}
use Rattle.adjust_kernel.specs.declared.kernel_fault.KernelFault.{KernelFault}
use Rattle.sheet_format.specs.declared.reading.TheConstants.{LONGEST_SHEET}
use Rattle.station_book.specs.Stations.{SurveyedStation, station_named}
use Rattle.station_check.specs.declared.fault.Fault.{Fault}
use Rattle.station_check.specs.declared.fault.Fault.TheVariants.{Kernel, Memory}
use Rattle.station_check.specs.Accepted.{StatesSheet}
use Rattle.station_check.specs.Verdicts.{IsSheetVerdict}

-- Of these stations the one of the sheet's name was found, and the kernel gave this verdict, which
-- tells of least squares what the kernel's verdicts tell.
pub record IsJudged (stations : List SurveyedStation) (limit : Option ℕ) (sheet : SheetValue)
    (v : Result Accepted KernelFault) : Type 0 where
  pub its : SurveyedStation
  pub named : station_named sheet.name stations ≡ Some its
  pub verdict : IsVerdict its.station sheet limit v
  pub matches : OnOk v (Matches its.station sheet)
  pub squares : TellsOfSquares its.station sheet limit v

-- The sheet was read to its end, its bytes state this sheet, and it was judged so.
pub record IsJudgedSheet (stations : List SurveyedStation) (limit : Option ℕ) (source : Told)
    (v : Result Accepted KernelFault) : Type 0 where
  pub sheet : SheetValue
  pub states : StatesSheet source sheet
  pub judged : IsJudged stations limit sheet v

-- what P says of the kernel's verdict, where the answer is one
abbrev pub IfKernels : (Result Accepted KernelFault → Type 0) → Result Accepted Fault → Type 0
IfKernels P (Ok accepted) = P (Ok accepted)
IfKernels P (Err (Kernel fault)) = P (Err fault)
IfKernels P (Err fault) = ⊤

-- The answer on a sheet of these bytes, by these stations: its verdict, or that there was no
-- memory; and a verdict of the kernel came about as it must.
pub record IsChecked (stations : List SurveyedStation) (limit : Option ℕ) (source : Told)
    (r : Result Accepted Fault) : Type 0 where
  pub verdict : (r ≡ Err Memory)
      ⊎ IsSheetVerdict stations limit (input_within LONGEST_SHEET source) r
  pub judged : IfKernels (IsJudgedSheet stations limit source) r
