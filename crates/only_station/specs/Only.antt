-- The only station of a field file, by its name.
use Rattle.std.specs.Prelude.{◌≡◌, ℕ, List, [], ◌∷◌, Option, Some, None, Result, Ok, Err}
use Rattle.byte_ends.specs.Source.{ReaderChange}
use Rattle.gsi_file.specs.FileAnswers.{FileAnswers}
use Rattle.station_book.specs.Limits.{FaceLimits}
use Rattle.station_book.specs.Stations.{SurveyedStation}
use Rattle.station_check.specs.NotedSurveys.{IsNotedSurvey}
use Rattle.station_check.specs.Outcomes.{FileComesTo}
use Rattle.station_check.specs.declared.fault.Fault.TheVariants.{NoStation}
use Rattle.station_compare.specs.HintTexts.{stations_hint}
use Rattle.station_compare.specs.Refusals.{by_fault}
use Rattle.station_compare.specs.Runs.{ReadsFieldFile}
use Rattle.station_compare.specs.declared.fault.CompareFault.{CompareFault}
use Rattle.station_compare.specs.declared.fault.CompareFault.TheVariants.{File, Memory}
use Rattle.station_compare.specs.declared.refusal.Refusal.{Refusal}

-- The name of the station, where there is one alone.
abbrev pub only_name : List SurveyedStation → Option (List ℕ)
only_name (its ∷ []) = Some its.station.name
only_name stations = None

-- The file has one station, and this is its name.
pub record HasOnly (limits : FaceLimits) (file : FileAnswers) (name : List ℕ) : Type 0 where
  pub stations : List SurveyedStation
  pub unchecked : ℕ
  pub survey : IsNotedSurvey limits file stations unchecked
  pub named : only_name stations ≡ Some name

-- The file has no station or several, and the hint is of them.
pub record HasNotOne (limits : FaceLimits) (file : FileAnswers) (hint : List ℕ) : Type 0 where
  pub stations : List SurveyedStation
  pub unchecked : ℕ
  pub survey : IsNotedSurvey limits file stations unchecked
  pub unnamed : only_name stations ≡ None
  pub hint_is : hint ≡ stations_hint stations unchecked

-- Why no name is answered, and what is told after it: the first fault of the file; or that it has
-- not one station, and which it has; or that memory ran out.
abbrev pub IsRefusedOnly : FaceLimits → FileAnswers → CompareFault → List ℕ → Type 0
IsRefusedOnly limits file (File NoStation) hint = HasNotOne limits file hint
IsRefusedOnly limits file (File fault) hint =
    FileComesTo limits file (Err fault) × (hint ≡ [])
IsRefusedOnly limits file Memory hint = hint ≡ []
IsRefusedOnly limits file fault hint = ⊥

-- The name of the only station is answered, or why there is none.
abbrev pub TellsOnly : FaceLimits → FileAnswers → Result (List ℕ) Refusal → Type 0
TellsOnly limits file (Ok name) = HasOnly limits file name
TellsOnly limits file (Err refusal) = IsRefusedOnly limits file refusal.fault refusal.hint

-- The same of what a reader gave, which is left as the answer says.
abbrev pub FindsOnly : FaceLimits → ReaderChange → Result (List ℕ) Refusal → Type 0
FindsOnly limits gsi r = ReadsFieldFile gsi (by_fault r) (λ file. TellsOnly limits file r)
