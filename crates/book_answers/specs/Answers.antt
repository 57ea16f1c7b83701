-- What is answered of all stations of a field file, whatever text is asked for.
use Rattle.std.specs.Prelude.{◌≡◌, ◌≤◌, ℕ, List, Option, Some, None, Result, Ok, Err, length, map}
use Rattle.std.specs.Prelude.{slice_get, take}
use Rattle.std.specs.List.{AllZip, zip}
use Rattle.book_answers.specs.Together.{together}
use Rattle.book_answers.specs.declared.arrangement.Arrangement.{Arrangement}
use Rattle.book_answers.specs.declared.refusal.StationRefusal.{StationRefusal}
use Rattle.gsi_file.specs.FileAnswers.{FileAnswers}
use Rattle.station_answers.specs.Answers.{HasNone, TellsOf}
use Rattle.station_book.specs.Stations.{SurveyedStation}
use Rattle.station_book.specs.declared.result_limits.ResultLimits.{ResultLimits}
use Rattle.station_check.specs.Surveys.{IsSurvey}
use Rattle.station_compare.specs.Hints.{IsHintOf}
use Rattle.station_compare.specs.declared.fault.CompareFault.{CompareFault}
use Rattle.station_compare.specs.declared.refusal.Refusal.{Refusal}

-- the names of stations, in their order
abbrev pub names_of : List SurveyedStation → List (List ℕ)
names_of stations = map (λ its. its.station.name) stations

-- What is answered of a station where it alone is asked for, by its name.
abbrev pub Telling : Type 1
Telling = List ℕ → Result (List ℕ) CompareFault → Type 0

-- The text of each of these stations is the one that is answered where it alone is asked for.
abbrev pub HaveTexts : Telling → List SurveyedStation → List (List ℕ) → Type 0
HaveTexts Tells stations texts =
    AllZip (λ its own. Tells its.station.name (Ok own)) stations texts

-- This is the one text of all stations of the file, of which there is one at least, in their order:
-- of each the text that is answered where it alone is asked for.
pub record StatesEach (Tells : Telling) (limits : ResultLimits) (arrangement : Arrangement)
    (file : FileAnswers) (text : List ℕ) : Type 0 where
  pub stations : List SurveyedStation
  pub survey : IsSurvey limits.faces file stations
  pub some : 1 ≤ length stations
  pub texts : List (List ℕ)
  pub each : HaveTexts Tells stations texts
  pub text_is : text ≡ together arrangement (zip (names_of stations) texts)

-- The station of this name is the first of the file that is refused: each before it has a text.
pub record IsFirstOfEach (Tells : Telling) (Refuses : List ℕ → Refusal → Type 0)
    (limits : ResultLimits) (file : FileAnswers) (name : List ℕ) (refusal : Refusal)
    : Type 0 where
  pub stations : List SurveyedStation
  pub survey : IsSurvey limits.faces file stations
  pub place : ℕ
  pub its : SurveyedStation
  pub here : slice_get stations place ≡ Some its
  pub named : its.station.name ≡ name
  pub texts : List (List ℕ)
  pub before : HaveTexts Tells (take place stations) texts
  pub refused : Refuses name refusal

-- The one text of all stations, each of which has its text by these limits.
abbrev pub StatesAll : (SurveyedStation → List ℕ → Type 0) → ResultLimits → Arrangement
    → FileAnswers → List ℕ → Type 0
StatesAll Says limits arrangement file text =
    StatesEach (TellsOf Says limits file) limits arrangement file text

-- This is what is answered where the station of this name alone is asked for: why it has no text,
-- and the hint of that.
abbrev pub IsRefusedAlone : ResultLimits → FileAnswers → List ℕ → Refusal → Type 0
IsRefusedAlone limits file name refusal =
    HasNone limits file name refusal.fault
    × IsHintOf limits file name refusal.fault refusal.hint

-- Why no text is answered: the refusal of the first station that is refused, which it names; or,
-- of no one station, what is answered whichever station is asked for.
abbrev pub IsRefused : (SurveyedStation → List ℕ → Type 0) → ResultLimits → FileAnswers
    → Option (List ℕ) → Refusal → Type 0
IsRefused Says limits file (Some name) refusal =
    IsFirstOfEach (TellsOf Says limits file) (IsRefusedAlone limits file) limits file name refusal
IsRefused Says limits file None refusal =
    (name : List ℕ) → IsRefusedAlone limits file name refusal

-- The same of a refusal and the station that it names.
abbrev pub IsRefusedOfAll : (SurveyedStation → List ℕ → Type 0) → ResultLimits → FileAnswers
    → StationRefusal → Type 0
IsRefusedOfAll Says limits file refused =
    IsRefused Says limits file refused.station refused.refusal

-- What is answered: the one text, or why there is none.
abbrev pub TellsOfAll : (SurveyedStation → List ℕ → Type 0) → ResultLimits → Arrangement
    → FileAnswers → Result (List ℕ) StationRefusal → Type 0
TellsOfAll Says limits arrangement file (Ok text) = StatesAll Says limits arrangement file text
TellsOfAll Says limits arrangement file (Err refused) = IsRefusedOfAll Says limits file refused
