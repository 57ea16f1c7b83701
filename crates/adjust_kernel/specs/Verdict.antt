-- The verdict on a sheet of a station: the first of its faults, in a stated order, or the
-- acceptance. An office may state a residual limit.
use Rattle.std.specs.Prelude.{◌≡◌, ◌≢◌, ℕ, pos, ◌+◌, ◌<◌, List, length, Option, Result, Ok, Err}
use Rattle.std.specs.Prelude.{IsSomeAnd}
use Rattle.adjust_kernel.specs.declared.accepted.Accepted.{Accepted}
use Rattle.adjust_kernel.specs.declared.kernel_fault.KernelFault.{KernelFault}
use Rattle.adjust_kernel.specs.declared.kernel_fault.KernelFault.TheVariants.{Name, TargetRow}
use Rattle.adjust_kernel.specs.declared.kernel_fault.KernelFault.TheVariants.{SetRow, ObsRow, Datum}
use Rattle.adjust_kernel.specs.declared.kernel_fault.KernelFault.TheVariants.{TargetSum, SetSum}
use Rattle.adjust_kernel.specs.declared.kernel_fault.KernelFault.TheVariants.{NotConnected}
use Rattle.adjust_kernel.specs.declared.kernel_fault.KernelFault.TheVariants.{Residual}
use Rattle.adjust_kernel.specs.Connected.{IsConnected, IsDivided}
use Rattle.adjust_kernel.specs.Firsts.{IsFirstDifference, IsFirstWhere}
use Rattle.adjust_kernel.specs.Greatest.{IsGreatest}
use Rattle.adjust_kernel.specs.Matching.{names_of, numbers_of, keys_of, observed}
use Rattle.adjust_kernel.specs.Pairs.{choice_stated_by, turned_by_rows}
use Rattle.adjust_kernel.specs.TurnedObservations.{TurnedObservation}
use Rattle.adjust_kernel.specs.Residuals.{target_sum, set_sum}
use Rattle.adjust_kernel.specs.Sheets.{SheetValue}
use Rattle.adjust_kernel.specs.Stations.{StationValue}
use Rattle.adjust_kernel.specs.Turns.{IsAbove, IsLimited}

-- The observations of the station with the full turns of the sheet.
abbrev pub observations : StationValue → SheetValue → List TurnedObservation
observations station sheet = turned_by_rows station.obs sheet.rows

-- The residuals of each target add to 0.
abbrev pub TargetsAddUp : StationValue → SheetValue → Type 0
TargetsAddUp station sheet =
    (t : ℕ) → t < length station.targets
    → target_sum (choice_stated_by sheet) (observations station sheet) t ≡ pos 0

-- The residuals of each set add to 0.
abbrev pub SetsAddUp : StationValue → SheetValue → Type 0
SetsAddUp station sheet =
    (s : ℕ) → s < length station.sets
    → set_sum (choice_stated_by sheet) (observations station sheet) s ≡ pos 0

-- The observations hold all sets and targets together.
abbrev pub HoldsTogether : StationValue → SheetValue → Type 0
HoldsTogether station sheet =
    IsConnected (length station.sets) (length station.targets) (observations station sheet)

-- No residual is above this limit.
abbrev pub KeepsLimit : StationValue → SheetValue → ℕ → Type 0
KeepsLimit station sheet limit =
    IsLimited limit (choice_stated_by sheet) (observations station sheet)

-- P holds of the place that is the n-th, counted from 1.
abbrev pub AtNth : (ℕ → Type 0) → ℕ → Type 0
AtNth P n = (place : ℕ) × (n ≡ place + 1) × P place

-- When each fault stands (profile, but for the sums and the connection, which are the textbook's).
-- Its number is the smallest, from 1, for which it does: of a row that isn't the station's, of a
-- target or a set whose residuals don't add to 0, of an observation whose residual is above the
-- limit.
abbrev pub Stands : StationValue → SheetValue → Option ℕ → KernelFault → Type 0
Stands station sheet limit Name = sheet.name ≢ station.name
Stands station sheet limit (TargetRow n) =
    AtNth (IsFirstDifference (names_of sheet) station.targets) n
Stands station sheet limit (SetRow n) =
    AtNth (IsFirstDifference (numbers_of sheet) station.sets) n
Stands station sheet limit (ObsRow n) =
    AtNth (IsFirstDifference (keys_of sheet) (observed station)) n
Stands station sheet limit Datum = (choice_stated_by sheet).direction 0 ≢ pos 0
Stands station sheet limit (TargetSum n) =
    AtNth
    (IsFirstWhere (λ t. target_sum (choice_stated_by sheet) (observations station sheet) t ≢ pos 0)
    (length station.targets)) n
Stands station sheet limit (SetSum n) =
    AtNth
    (IsFirstWhere (λ s. set_sum (choice_stated_by sheet) (observations station sheet) s ≢ pos 0)
    (length station.sets)) n
Stands station sheet limit NotConnected =
    IsDivided (length station.sets) (length station.targets) (observations station sheet)
Stands station sheet limit (Residual n) =
    IsSomeAnd limit (λ limit.
    AtNth (IsFirstWhere (IsAbove limit (choice_stated_by sheet) (observations station sheet))
    (length (observations station sheet))) n)

-- The order in which the faults are looked for.
abbrev pub order_of : KernelFault → ℕ
order_of Name = 1
order_of (TargetRow n) = 2
order_of (SetRow n) = 3
order_of (ObsRow n) = 4
order_of Datum = 5
order_of (TargetSum n) = 6
order_of (SetSum n) = 7
order_of NotConnected = 8
order_of (Residual n) = 9

-- What is said of a sheet that is accepted.
pub record IsAcceptance (station : StationValue) (sheet : SheetValue) (accepted : Accepted) :
    Type 0 where
  pub name : accepted.name ≡ station.name
  pub sets : accepted.sets ≡ length station.sets
  pub targets : accepted.targets ≡ length station.targets
  pub directions : accepted.directions ≡ length station.obs
  pub greatest :
      IsGreatest (choice_stated_by sheet) (observations station sheet) accepted.greatest
  pub denominator : accepted.denominator ≡ sheet.denominator

-- The verdict: a fault that stands, where none stands that is looked for before it; or the
-- acceptance, where none stands.
abbrev pub IsVerdict : StationValue → SheetValue → Option ℕ → Result Accepted KernelFault → Type 0
IsVerdict station sheet limit (Err fault) =
    Stands station sheet limit fault
    × ((other : KernelFault) → order_of other < order_of fault
    → Stands station sheet limit other → ⊥)
IsVerdict station sheet limit (Ok accepted) =
    ((fault : KernelFault) → Stands station sheet limit fault → ⊥)
    × IsAcceptance station sheet accepted

-- The verdict is this fault, whatever limit is stated.
abbrev pub IsFault : StationValue → SheetValue → KernelFault → Type 0
IsFault station sheet fault = (limit : Option ℕ) → IsVerdict station sheet limit (Err fault)

-- The verdict is an acceptance.
abbrev pub IsAcceptedSheet : StationValue → SheetValue → Option ℕ → Type 0
IsAcceptedSheet station sheet limit =
    (accepted : Accepted) × IsVerdict station sheet limit (Ok accepted)
