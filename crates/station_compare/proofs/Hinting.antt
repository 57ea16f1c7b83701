-- A refusal of a station has the hint of its fault.
use Rattle.std.proofs.Common.{◌≡◌, ℕ, List, [], Result, Ok, Err, refl}
use Rattle.adjust_kernel.specs.Stations.{StationValue}
use Rattle.gsi_file.specs.FileAnswers.{FileAnswers}
use Rattle.station_book.specs.Stations.{SurveyedStation}
use Rattle.station_book.specs.declared.result_limits.ResultLimits.{ResultLimits}
use Rattle.station_check.specs.Answerable.{IsOfFile}
use Rattle.station_check.specs.StationOfFile.{IsStationOfFile}
use Rattle.station_check.specs.declared.fault.Fault.{Fault}
use Rattle.station_check.specs.declared.fault.Fault.TheVariants as file
use Rattle.station_compare.specs.Faults.{of_file}
use Rattle.station_compare.specs.Hints.{IsHinted, IsHintOf}
use Rattle.station_compare.specs.Refusals.{by_fault, hinted}
use Rattle.station_compare.specs.declared.fault.CompareFault.{CompareFault}
use Rattle.station_compare.specs.declared.fault.CompareFault.TheVariants.{File, Table, Adjust}

-- No answer is a fault of the field file.
abbrev pub IsOfNoFile : {T : Type 0} → Result T CompareFault → Type 0
IsOfNoFile (Err (File fault)) = ⊥
IsOfNoFile r = Unit {0}

-- An answer with its hint has the fault that it had.
pub fault_of_hinted : {T : Type 0} (station : StationValue) (residual : ℕ)
    (r : Result T CompareFault) → by_fault (hinted station residual r) ≡ r
fault_of_hinted station residual (Ok x) = refl
fault_of_hinted station residual (Err fault) = refl

module _ (limits : ResultLimits) (lines : FileAnswers) (name : List ℕ) where
  -- An answer of the station that the file has has the hint of its fault.
  pub hinted_by_station : {T : Type 0} (its : SurveyedStation) (r : Result T CompareFault)
      → IsStationOfFile limits.faces lines name its → IsOfNoFile r
      → IsHinted limits lines name (hinted its.station limits.residual r)
  hinted_by_station its (Ok x) station own = tt
  hinted_by_station its (Err (File fault)) station own = absurd own
  hinted_by_station its (Err (Table fault)) station own =
      record { its = its; station = station; hint_is = refl }
  hinted_by_station its (Err (Adjust fault)) station own =
      record { its = its; station = station; hint_is = refl }
  hinted_by_station its (Err fault) station own = refl

  -- A fault of the file has no hint.
  pub unhinted_file : (fault : Fault) → IsOfFile fault
      → IsHintOf limits lines name (of_file fault) []
  unhinted_file file.NoStation o = absurd o
  unhinted_file file.Memory o = refl
  unhinted_file fault o = refl
