-- What the check of a sheet answers, and what the answer says of least squares.
use Rattle.std.specs.Prelude.{◌≡◌, ℕ, List, length, Option, IfSome, Result, Ok, Err, OnOk, ⊤}
use Rattle.adjust_kernel.specs.declared.accepted.Accepted.{Accepted}
use Rattle.adjust_kernel.specs.declared.kernel_fault.KernelFault.{KernelFault}
use Rattle.adjust_kernel.specs.declared.kernel_fault.KernelFault.TheVariants.{TargetSum, SetSum}
use Rattle.adjust_kernel.specs.declared.kernel_fault.KernelFault.TheVariants.{NotConnected}
use Rattle.adjust_kernel.specs.Least.{IsLeast, IsUnique, HasBetter, HasAnother}
use Rattle.adjust_kernel.specs.Matching.{Matches}
use Rattle.adjust_kernel.specs.Pairs.{choice_stated_by}
use Rattle.adjust_kernel.specs.TurnedObservations.{TurnedObservation}
use Rattle.adjust_kernel.specs.Residuals.{Choice}
use Rattle.adjust_kernel.specs.Sheets.{SheetValue}
use Rattle.adjust_kernel.specs.Stations.{StationValue}
use Rattle.adjust_kernel.specs.Turns.{IsLeastOverTurns, OnlyTurnedWhole}
use Rattle.adjust_kernel.specs.Verdict.{IsVerdict, observations}

-- The choice is the least-squares adjustment of the observations with their turns: no choice has a
-- smaller sum of squares, and what reaches the same sum is a rotation of it.
pub record IsAdjusted (sets targets : ℕ) (c : Choice)
    (observations : List TurnedObservation) : Type 0 where
  pub least : IsLeast c observations
  pub unique : IsUnique sets targets c observations

-- It is so with any other full turns too.
pub record IsAdjustedOverTurns (c : Choice) (observations : List TurnedObservation) : Type 0 where
  pub least : IsLeastOverTurns c observations
  pub only : OnlyTurnedWhole c observations

-- What an answer tells of least squares, by its case: an accepted sheet is the adjustment, and over
-- all turns where a residual limit was stated; where the sum of a target or of a set is refused,
-- some other choice is better; where nothing holds the sets and targets together, another choice is
-- as good. The other faults tell nothing.
abbrev pub TellsOfSquares :
    StationValue → SheetValue → Option ℕ → Result Accepted KernelFault → Type 0
TellsOfSquares station sheet limit (Ok accepted) =
    IsAdjusted (length station.sets) (length station.targets)
    (choice_stated_by sheet) (observations station sheet)
    × IfSome limit (λ n. IsAdjustedOverTurns (choice_stated_by sheet) (observations station sheet))
TellsOfSquares station sheet limit (Err (TargetSum n)) =
    HasBetter (choice_stated_by sheet) (observations station sheet)
TellsOfSquares station sheet limit (Err (SetSum n)) =
    HasBetter (choice_stated_by sheet) (observations station sheet)
TellsOfSquares station sheet limit (Err NotConnected) =
    HasAnother (length station.sets) (length station.targets)
    (choice_stated_by sheet) (observations station sheet)
TellsOfSquares station sheet limit (Err fault) = ⊤

-- What the check of a sheet answers, under a residual limit where one is stated: the verdict and no
-- other; an accepted sheet is of the station; and of least squares it tells what is said above.
pub record IsKernelAnswer (station : StationValue) (sheet : SheetValue) (limit : Option ℕ)
    (answer : Result Accepted KernelFault) : Type 0 where
  pub verdict : IsVerdict station sheet limit answer
  pub no_other_verdict : (other : Result Accepted KernelFault)
      → IsVerdict station sheet limit other → answer ≡ other
  pub matches : OnOk answer (Matches station sheet)
  pub squares : TellsOfSquares station sheet limit answer
