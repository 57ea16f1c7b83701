-- What is answered of stations, before it is said of the file that has them.
use Rattle.std.specs.Prelude.{◌≡◌, ◌⊎◌, ℕ, List, Some, slice_get, take}
use Rattle.std.specs.List.{AllZip, zip}
use Rattle.book_answers.specs.Answers.{names_of}
use Rattle.book_answers.specs.Refusals.{of_no_one}
use Rattle.book_answers.specs.Together.{together}
use Rattle.book_answers.specs.declared.arrangement.Arrangement.{Arrangement}
use Rattle.book_answers.specs.declared.refusal.StationRefusal.{StationRefusal}
use Rattle.exact_adjustment.specs.LeastOf.{HasResidualsWithin}
use Rattle.station_answers.specs.Answers.{HasNoText}
use Rattle.station_book.specs.Stations.{SurveyedStation}
use Rattle.station_compare.specs.HintTexts.{station_hint}
use Rattle.station_compare.specs.declared.fault.CompareFault.TheVariants.{Memory}
use Rattle.station_compare.specs.declared.refusal.Refusal.{Refusal}

-- This is the text of a station, no residual of which is above a limit in half units.
abbrev pub HasText : (SurveyedStation → List ℕ → Type 0) → ℕ → SurveyedStation → List ℕ → Type 0
HasText Says residual its own = Says its own × HasResidualsWithin its.station residual

-- This is the one text of these stations.
pub record IsOneText (Says : SurveyedStation → List ℕ → Type 0) (residual : ℕ)
    (arrangement : Arrangement) (stations : List SurveyedStation) (text : List ℕ) : Type 0 where
  pub texts : List (List ℕ)
  pub each : AllZip (HasText Says residual) stations texts
  pub text_is : text ≡ together arrangement (zip (names_of stations) texts)

-- A station alone has no text for this reason, with the hint of it.
pub record IsRefusedOfOne (residual : ℕ) (its : SurveyedStation) (refusal : Refusal)
    : Type 0 where
  pub none : HasNoText its.station residual refusal.fault
  pub hint_is : refusal.hint ≡ station_hint its.station residual refusal.fault

-- A station is refused so, and the refusal names it.
pub record IsRefusedAt (Refuses : SurveyedStation → Refusal → Type 0) (its : SurveyedStation)
    (refused : StationRefusal) : Type 0 where
  pub refuses : Refuses its refused.refusal
  pub named : refused.station ≡ Some its.station.name

-- The first of these stations that is refused, and each before it has a text.
pub record IsFirstAt (Says : SurveyedStation → List ℕ → Type 0)
    (Refuses : SurveyedStation → Refusal → Type 0) (residual : ℕ)
    (stations : List SurveyedStation) (refused : StationRefusal) : Type 0 where
  pub place : ℕ
  pub its : SurveyedStation
  pub here : slice_get stations place ≡ Some its
  pub texts : List (List ℕ)
  pub before : AllZip (HasText Says residual) (take place stations) texts
  pub at : IsRefusedAt Refuses its refused

-- Why stations have no one text: one is refused; or memory ran out.
abbrev pub IsWhyNoText : (SurveyedStation → List ℕ → Type 0)
    → (SurveyedStation → Refusal → Type 0) → ℕ → List SurveyedStation → StationRefusal → Type 0
IsWhyNoText Says Refuses residual stations refused =
    (refused ≡ of_no_one Memory) ⊎ IsFirstAt Says Refuses residual stations refused
