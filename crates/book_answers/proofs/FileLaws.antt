-- From what is answered of stations to what is answered of the file that has them.
use Rattle.std.proofs.Common.{◌≡◌, ◌≤◌, ◌∷◌, ℕ, List, [], None, Ok, Err, Result, Some, arith, inl}
use Rattle.std.proofs.Common.{inr}
use Rattle.std.proofs.Common.{length}
use Rattle.std.proofs.Common.{refl, slice_get, subst, suc, sym, take, zero}
use Rattle.std.specs.Prelude.{MatchResult, ⊤}
use Rattle.std.specs.List.{AllZip, Contains}
use Rattle.std.proofs.lemmas.Option.{get_or_from_slice_get, slice_get_within}
use Rattle.book_answers.specs.Answers.{HaveTexts, IsFirstOfEach, IsRefused, IsRefusedAlone}
use Rattle.book_answers.specs.Answers.{IsRefusedOfAll, StatesAll, StatesEach, Telling}
use Rattle.book_answers.specs.OfStations.{HasText, IsFirstAt, IsOneText, IsRefusedOfOne}
use Rattle.book_answers.specs.OfStations.{IsWhyNoText}
use Rattle.book_answers.specs.Refusals.{fault_of}
use Rattle.book_answers.specs.declared.arrangement.Arrangement.{Arrangement}
use Rattle.book_answers.specs.declared.refusal.StationRefusal.{StationRefusal}
use Rattle.byte_ends.specs.Came.{IsLeftAs, IsReadOut, Leaves}
use Rattle.byte_ends.specs.Source.{ReaderChange}
use Rattle.gsi_file.specs.FileAnswers.{FileAnswers}
use Rattle.station_answers.proofs.AnswerLaws.{answers_by_station, left_by_station}
use Rattle.station_answers.specs.Answers.{TellsOf}
use Rattle.station_book.proofs.LawLemmas.{its_station}
use Rattle.station_book.specs.Limits.{AreLimits}
use Rattle.station_book.specs.Stations.{SurveyedStation, station_named}
use Rattle.station_book.specs.declared.result_limits.ResultLimits.{ResultLimits}
use Rattle.station_check.proofs.Acceptance.{came_well}
use Rattle.station_check.proofs.LawLemmas.{station_of_file}
use Rattle.station_check.specs.StationOfFile.{IsStationOfFile}
use Rattle.station_check.specs.Surveys.{IsSurvey}
use Rattle.station_compare.specs.Answers.{field_file_left}
use Rattle.station_compare.specs.Hints.{IsHintOf}
use Rattle.station_compare.specs.declared.refusal.Refusal.{Refusal}

-- What stands at a place among the first elements stands there among all.
of_first : {X : Type 0} (xs : List X) (n i : ℕ) (x : X) → slice_get (take n xs) i ≡ Some x
    → slice_get xs i ≡ Some x
of_first xs zero i x here = absurd cc
of_first [] (suc n) i x here = here
of_first (y ∷ ys) (suc n) zero x here = here
of_first (y ∷ ys) (suc n) (suc i) x here = of_first ys n i x here

-- Where there are no stations none has the name.
pub none_named : (name : List ℕ) (stations : List SurveyedStation) → length stations ≡ 0
    → station_named name stations ≡ None
none_named name [] none = refl
none_named name (its ∷ stations) none = absurd (omega (arith, none))

-- How what is answered of stations leaves the reader.
pub left_of_all : {T : Type 0} (Says : SurveyedStation → List ℕ → Type 0)
    (Refuses : SurveyedStation → Refusal → Type 0) (residual : ℕ)
    (stations : List SurveyedStation) (Of : T → Type 0) (r : Result T StationRefusal)
    (gsi : ReaderChange)
    → ((its : SurveyedStation) (refusal : Refusal) → Refuses its refusal
    → IsLeftAs (field_file_left refusal.fault) gsi)
    → MatchResult r Of (IsWhyNoText Says Refuses residual stations) → IsReadOut gsi
    → Leaves field_file_left (fault_of r) gsi
left_of_all Says Refuses residual stations Of (Ok t) gsi left why out = out
left_of_all Says Refuses residual stations Of (Err refused) gsi left (inl memory) out =
    rw memory out.unfailed
left_of_all Says Refuses residual stations Of (Err refused) gsi left (inr first) out =
    left first.its refused.refusal first.at.refuses

-- A refusal of a station alone does.
pub left_alone : (residual : ℕ) (gsi : ReaderChange) → IsReadOut gsi → (its : SurveyedStation)
    (refusal : Refusal) → IsRefusedOfOne residual its refusal
    → IsLeftAs (field_file_left refusal.fault) gsi
left_alone residual gsi out its refusal of_one =
    left_by_station {T = List ℕ} (λ text. ⊤) its.station residual (Err refusal.fault) gsi
    of_one.none out

module _ (limits : ResultLimits) (file : FileAnswers) (stations : List SurveyedStation)
    (survey : IsSurvey limits.faces file stations) (small : AreLimits limits.faces) where
  -- The station at a place is the one of its name.
  at_place : (place : ℕ) (its : SurveyedStation) → slice_get stations place ≡ Some its
      → IsStationOfFile limits.faces file its.station.name its
  at_place place its here =
      let well = came_well limits.faces [] file.lines file.last survey.blocks tt survey.file in
      let listed : Contains stations its = (
        place,
        slice_get_within stations place its here,
        get_or_from_slice_get stations place its its here,
      ) in
      (station_of_file limits.faces file its.station.name its small).0 (record {
        stations = stations;
        survey = survey;
        named = (its_station limits.faces survey.blocks stations its.station.name its
            well.faultless survey.stations_are).1 (listed, refl);
      })

  module _ (Says : SurveyedStation → List ℕ → Type 0) (Refuses : SurveyedStation → Refusal → Type 0)
      (Tells : Telling) (RefusesOf : List ℕ → Refusal → Type 0)
      (tells : (its : SurveyedStation) (own : List ℕ)
      → IsStationOfFile limits.faces file its.station.name its
      → HasText Says limits.residual its own → Tells its.station.name (Ok own))
      (refuses : (its : SurveyedStation) (refusal : Refusal)
      → IsStationOfFile limits.faces file its.station.name its → Refuses its refusal
      → RefusesOf its.station.name refusal)
    where
      -- What is said of stations is answered of each by its name.
      each_alone : (xs : List SurveyedStation) (texts : List (List ℕ))
          → ((place : ℕ) (its : SurveyedStation) → slice_get xs place ≡ Some its
          → IsStationOfFile limits.faces file its.station.name its)
          → AllZip (HasText Says limits.residual) xs texts → HaveTexts Tells xs texts
      each_alone [] [] own each = tt
      each_alone [] (text ∷ texts) own each = absurd each
      each_alone (x ∷ xs) [] own each = absurd each
      each_alone (x ∷ xs) (text ∷ texts) own each = (
        tells x text (own 0 x refl) each.0,
        each_alone xs texts (λ place its here. own (suc place) its here) each.1,
      )

      -- The first station that is refused is so by its name.
      pub first_of_each : (refused : StationRefusal)
          (first : IsFirstAt Says Refuses limits.residual stations refused)
          → IsFirstOfEach Tells RefusesOf limits file first.its.station.name refused.refusal
      first_of_each refused first = record {
        stations = stations;
        survey = survey;
        place = first.place;
        its = first.its;
        here = first.here;
        named = refl;
        texts = first.texts;
        before = each_alone (take first.place stations) first.texts
            (λ place its here. at_place place its (of_first stations first.place place its here))
            first.before;
        refused = refuses first.its refused.refusal (at_place first.place first.its first.here)
            first.at.refuses;
      }

      -- The one text of stations is that of the file.
      pub states_each : (arrangement : Arrangement) (text : List ℕ) → 1 ≤ length stations
          → IsOneText Says limits.residual arrangement stations text
          → StatesEach Tells limits arrangement file text
      states_each arrangement text some one = record {
        stations = stations;
        survey = survey;
        some = some;
        texts = one.texts;
        each = each_alone stations one.texts at_place one.each;
        text_is = one.text_is;
      }

  module _ (Says : SurveyedStation → List ℕ → Type 0) where
    -- The text of a station is what it alone is answered with,
    tells_alone : (its : SurveyedStation) (own : List ℕ)
        → IsStationOfFile limits.faces file its.station.name its
        → HasText Says limits.residual its own
        → TellsOf Says limits file its.station.name (Ok own)
    tells_alone its own station has =
        record { its = its; station = station; held = has.1; said = has.0 }

    -- and so is its refusal.
    refused_alone : (its : SurveyedStation) (refusal : Refusal)
        → IsStationOfFile limits.faces file its.station.name its
        → IsRefusedOfOne limits.residual its refusal
        → IsRefusedAlone limits file its.station.name refusal
    refused_alone its refusal station of_one =
        let name = its.station.name in
        let both = answers_by_station Says limits file name {T = List ℕ} (λ text. text) its
        (Err refusal.fault) station of_one.none tt in (
          both.0,
          subst (λ hint. IsHintOf limits file name refusal.fault hint) (sym of_one.hint_is)
              both.1,
        )

    why_refused : (refused : StationRefusal)
        → IsWhyNoText Says (IsRefusedOfOne limits.residual) limits.residual stations refused
        → IsRefusedOfAll Says limits file refused
    why_refused refused (inl memory) = rw memory (λ name. (tt, refl))
    why_refused refused (inr first) =
        subst (λ station. IsRefused Says limits file station refused.refusal)
        (sym first.at.named)
        (first_of_each Says (IsRefusedOfOne limits.residual) (TellsOf Says limits file)
        (IsRefusedAlone limits file) tells_alone refused_alone refused first)

    -- What is answered of all stations of the file.
    pub told_of_all : {T : Type 0} (arrangement : Arrangement) (items : T → List ℕ)
        (r : Result T StationRefusal) → 1 ≤ length stations
        → MatchResult r
        (λ text. IsOneText Says limits.residual arrangement stations (items text))
        (IsWhyNoText Says (IsRefusedOfOne limits.residual) limits.residual stations)
        → MatchResult r (λ text. StatesAll Says limits arrangement file (items text))
        (IsRefusedOfAll Says limits file)
    told_of_all arrangement items (Ok text) some one =
        states_each Says (IsRefusedOfOne limits.residual) (TellsOf Says limits file)
        (IsRefusedAlone limits file) tells_alone refused_alone arrangement (items text) some one
    told_of_all arrangement items (Err refused) some why = why_refused refused why
