-- Why a station has no adjustment.
use Rattle.std.specs.Prelude.{◌≡◌, ℕ, ◌≤◌, List, length, ℤ, ⊤, Option, IfSome}
use Rattle.adjust_kernel.specs.Residuals.{Choice}
use Rattle.adjust_kernel.specs.Stations.{IsStation, StationValue}
use Rattle.adjust_kernel.specs.Turns.{IsLimited}
use Rattle.adjust_kernel.specs.Verdict.{AtNth}
use Rattle.exact_adjustment.specs.Adjustments.{AdjustmentValue, adjustment_of}
use Rattle.exact_adjustment.specs.Exact.{AddsUp, IsExact, IsGreatestAbove, KeepsLimit}
use Rattle.exact_adjustment.specs.LeastOf.{AreTied, observed_with}
use Rattle.exact_adjustment.specs.Nearest.{AreNearestToBoth, HasNearestTurns}
use Rattle.modular_solver.specs.Said.{WasSaid}
use Rattle.modular_solver.specs.declared.found.Found.{Found}
use Rattle.exact_adjustment.specs.declared.fault.AdjustFault.{AdjustFault}
use Rattle.exact_adjustment.specs.declared.fault.AdjustFault.TheVariants.{NotConnected, Residual}
use Rattle.exact_adjustment.specs.declared.fault.AdjustFault.TheVariants.{NotFound}
use Rattle.exact_adjustment.specs.declared.fault.AdjustError.{AdjustError}
use Rattle.exact_adjustment.specs.declared.fault.AdjustError.TheVariants.{Fault, Memory}

-- No directions and orientations, over whatever denominator and with whatever full turns, have all
-- sums of residuals 0 and no residual above the limit.
abbrev pub NoneKeepsLimit : StationValue → ℕ → Type 0
NoneKeepsLimit station limit =
    (c : Choice) (turns : List ℤ) → length turns ≡ length station.obs → 1 ≤ c.denominator
    → AddsUp station c turns → IsLimited limit c (observed_with station turns) → ⊥

-- The parts that the solver names, as an adjustment.
abbrev pub parts_of : Found → AdjustmentValue
parts_of found = adjustment_of found.denominator found.directions.items found.orientations.items
    found.turns.items

-- In the exact adjustment with nearest full turns, the residual of the observation at this place is
-- above the limit, and the first of the greatest.
pub record IsFar (station : StationValue) (limit place : ℕ) : Type 0 where
  pub rules : IsStation station
  pub adjustment : AdjustmentValue
  pub exact : IsExact station adjustment
  pub nearest : HasNearestTurns station adjustment.turns
  pub greatest : IsGreatestAbove station adjustment limit place

-- These are an exact adjustment of the station, which keeps the residual limit.
abbrev pub IsSolution : StationValue → ℕ → Found → Type 0
IsSolution station limit found =
    IsExact station (parts_of found) × KeepsLimit station (parts_of found) limit

-- The full turns that the solver names are those nearest to the angles that it names beside them.
abbrev pub HasTurnsOfItsAngles : StationValue → Found → Type 0
HasTurnsOfItsAngles station found =
    AreNearestToBoth station found.turns.items found.first_directions.items
    found.first_orientations.items

-- None was found: the solver was asked for this station, and what it said is nothing; or no exact
-- adjustment; or one that doesn't keep the residual limit, nor has the full turns of its angles.
pub record IsNotFound (station : StationValue) (limit : ℕ) : Type 0 where
  pub tied : AreTied station
  pub found : Option Found
  pub said : WasSaid (length station.sets) (length station.targets) station.obs found
  pub refused : IfSome found (λ numbers. ¬ IsSolution station limit numbers)
  pub not_nearest : IfSome found (λ numbers.
      IsExact station (parts_of numbers) → ¬ HasTurnsOfItsAngles station numbers)

-- When each fault is answered of a station whose residuals are held to a limit, in half units.
abbrev pub IsAdjustFault : StationValue → ℕ → AdjustFault → Type 0
IsAdjustFault station limit NotConnected = ¬ AreTied station
IsAdjustFault station limit (Residual number) =
    AreTied station × NoneKeepsLimit station limit × AtNth (IsFar station limit) number
IsAdjustFault station limit NotFound = IsNotFound station limit

-- Why no adjustment is answered. Memory runs out only of a station that is held together.
abbrev pub IsAdjustError : StationValue → ℕ → AdjustError → Type 0
IsAdjustError station limit (Fault fault) = IsAdjustFault station limit fault
IsAdjustError station limit Memory = AreTied station

-- The fault is the station's own, and not that no adjustment was found.
abbrev pub IsOfStation : AdjustFault → Type 0
IsOfStation NotConnected = ⊤
IsOfStation (Residual number) = ⊤
IsOfStation NotFound = ⊥
