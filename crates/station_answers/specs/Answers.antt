-- What is answered of one station of a field file, whatever text is asked for.
use Rattle.std.specs.Prelude.{ℕ, List, Result, Ok, Err, ⊤}
use Rattle.adjust_kernel.specs.Stations.{StationValue}
use Rattle.exact_adjustment.specs.Faults.{IsAdjustFault}
use Rattle.exact_adjustment.specs.LeastOf.{AreTied, HasResidualsWithin}
use Rattle.gsi_file.specs.FileAnswers.{FileAnswers}
use Rattle.station_book.specs.Stations.{SurveyedStation}
use Rattle.station_book.specs.declared.result_limits.ResultLimits.{ResultLimits}
use Rattle.station_check.specs.Means.{HasNoStation}
use Rattle.station_check.specs.Outcomes.{FileComesTo}
use Rattle.station_check.specs.StationOfFile.{IsStationOfFile}
use Rattle.station_check.specs.declared.fault.Fault.TheVariants.{NoStation}
use Rattle.station_compare.specs.declared.fault.CompareFault.{CompareFault}
use Rattle.station_compare.specs.declared.fault.CompareFault.TheVariants.{File, Adjust, Memory}

-- Of these lines of a field file, this is the text of the station of this name.
pub record StatesOf (Says : SurveyedStation → List ℕ → Type 0) (limits : ResultLimits)
    (file : FileAnswers) (name text : List ℕ) : Type 0 where
  -- The station of this name: its observations are exactly its two-face directions, and every face
  -- difference is within the limits.
  pub its : SurveyedStation
  pub station : IsStationOfFile limits.faces file name its
  -- No residual is above the limit of residuals, whichever choice is least.
  pub held : HasResidualsWithin its.station limits.residual
  -- Its text.
  pub said : Says its text

-- Why a station whose residuals are held to a limit in half units has no text: what its adjustment
-- has, or that there was no memory.
abbrev pub HasNoText : StationValue → ℕ → CompareFault → Type 0
HasNoText station residual (Adjust fault) = IsAdjustFault station residual fault
HasNoText station residual Memory = ⊤
HasNoText station residual fault = ⊥

-- The file has a station of this name, and this is why it has no text.
pub record IsWithoutText (limits : ResultLimits) (file : FileAnswers) (name : List ℕ)
    (fault : CompareFault) : Type 0 where
  pub its : SurveyedStation
  pub station : IsStationOfFile limits.faces file name its
  pub none : HasNoText its.station limits.residual fault

-- Why no text is answered: the first fault that stands, in the order of the file, the station and
-- the adjustment.
abbrev pub HasNone : ResultLimits → FileAnswers → List ℕ → CompareFault → Type 0
HasNone limits file name (File NoStation) = HasNoStation limits.faces file name
HasNone limits file name (File fault) = FileComesTo limits.faces file (Err fault)
HasNone limits file name Memory = ⊤
HasNone limits file name fault = IsWithoutText limits file name fault

-- What is answered: the text, or why there is none.
abbrev pub TellsOf : (SurveyedStation → List ℕ → Type 0) → ResultLimits → FileAnswers → List ℕ
    → Result (List ℕ) CompareFault → Type 0
TellsOf Says limits file name (Ok text) = StatesOf Says limits file name text
TellsOf Says limits file name (Err fault) = HasNone limits file name fault

-- The file has a station of this name, whose observations hold all sets and targets together.
pub record IsHeldTogether (limits : ResultLimits) (file : FileAnswers) (name : List ℕ) : Type 0 where
  pub its : SurveyedStation
  pub station : IsStationOfFile limits.faces file name its
  pub tied : AreTied its.station
