-- The hint of a refusal, said of the lines of a field file.
use Rattle.std.specs.Prelude.{◌≡◌, ℕ, List, [], Result, Ok, Err, ⊤}
use Rattle.gsi_file.specs.FileAnswers.{FileAnswers}
use Rattle.station_book.specs.Limits.{FaceLimits}
use Rattle.station_book.specs.Stations.{SurveyedStation}
use Rattle.station_book.specs.declared.result_limits.ResultLimits.{ResultLimits}
use Rattle.station_check.specs.NotedSurveys.{IsNotedSurvey}
use Rattle.station_check.specs.StationOfFile.{IsStationOfFile}
use Rattle.station_check.specs.declared.fault.Fault.TheVariants.{NoStation}
use Rattle.station_compare.specs.HintTexts.{station_hint, stations_hint}
use Rattle.station_compare.specs.declared.fault.CompareFault.{CompareFault}
use Rattle.station_compare.specs.declared.fault.CompareFault.TheVariants.{File, Table, Adjust}
use Rattle.station_compare.specs.declared.refusal.Refusal.{Refusal}

-- The hint is of the stations of the file, and of how many of its readings went unchecked.
pub record IsOfStations (limits : FaceLimits) (file : FileAnswers) (hint : List ℕ) : Type 0 where
  pub stations : List SurveyedStation
  pub unchecked : ℕ
  pub survey : IsNotedSurvey limits file stations unchecked
  pub hint_is : hint ≡ stations_hint stations unchecked

-- The hint is of the station of this name.
pub record IsOfItsStation (limits : ResultLimits) (file : FileAnswers) (name : List ℕ)
    (fault : CompareFault) (hint : List ℕ) : Type 0 where
  pub its : SurveyedStation
  pub station : IsStationOfFile limits.faces file name its
  pub hint_is : hint ≡ station_hint its.station limits.residual fault

-- What is told after the line of a fault of the station of this name: where the file has none, its
-- stations; of a fault of the table or of the adjustment, what its number stands for; else nothing.
abbrev pub IsHintOf : ResultLimits → FileAnswers → List ℕ → CompareFault → List ℕ → Type 0
IsHintOf limits file name (File NoStation) hint = IsOfStations limits.faces file hint
IsHintOf limits file name (Table fault) hint =
    IsOfItsStation limits file name (Table fault) hint
IsHintOf limits file name (Adjust fault) hint =
    IsOfItsStation limits file name (Adjust fault) hint
IsHintOf limits file name fault hint = hint ≡ []

-- A refusal has the hint of its fault.
abbrev pub IsHinted : {A : Type 0} → ResultLimits → FileAnswers → List ℕ → Result A Refusal
    → Type 0
IsHinted limits file name (Ok x) = ⊤
IsHinted limits file name (Err refusal) = IsHintOf limits file name refusal.fault refusal.hint
