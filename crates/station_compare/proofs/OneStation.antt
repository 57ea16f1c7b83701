-- A field file has one outcome, and of a name one station or none; so an answer is one that is one
-- of each station.
use Rattle.std.proofs.Common.{◌≡◌, ℕ, List, Option, Some, None, Result, Ok, Err, refl, sym, subst}
use Rattle.std.proofs.Common.{◌∙◌}
use Rattle.gsi_file.specs.FileAnswers.{FileAnswers}
use Rattle.station_book.specs.Limits.{AreLimits, FaceLimits}
use Rattle.station_book.specs.Places.{History}
use Rattle.station_book.specs.Stations.{AreStations, SurveyedStation, station_named}
use Rattle.station_book.proofs.LawLemmas.{one_survey}
use Rattle.station_check.proofs.LawLemmas.{one_outcome, station_of_file}
use Rattle.station_check.specs.Means.{HasNoStation}
use Rattle.station_check.specs.Outcomes.{FileComesTo}
use Rattle.station_check.specs.StationOfFile.{IsStationOfFile}
use Rattle.station_check.specs.Surveys.{IsSurvey}
use Rattle.station_check.specs.declared.fault.Fault.{Fault}
use Rattle.station_check.specs.declared.fault.Fault.TheVariants.{NoStation}
use Rattle.station_compare.specs.declared.fault.CompareFault.{CompareFault}
use Rattle.station_compare.specs.declared.fault.CompareFault.TheVariants.{File}

module _ (limits : FaceLimits) (small : AreLimits limits) (file : FileAnswers) (name : List ℕ) where
  -- What comes of the file: a fault, or the station of the name, if there is one.
  abbrev ComesOf : Result (Option SurveyedStation) Fault → Type 0
  ComesOf (Err fault) = FileComesTo limits file (Err fault)
  ComesOf (Ok its) = (stations : List SurveyedStation) × IsSurvey limits file stations
      × (station_named name stations ≡ its)

  found : (its : SurveyedStation) → IsStationOfFile limits file name its → ComesOf (Ok (Some its))
  found its s =
      let has = (station_of_file limits file name its small).1 s in
      (has.stations, has.survey, has.named)

  -- Only one thing comes of it.
  one_comes : (a b : Result (Option SurveyedStation) Fault) → ComesOf a → ComesOf b → a ≡ b
  one_comes (Err f) (Err g) p q =
      let e : Err f ≡ Err g = one_outcome limits file (Err f) (Err g) p q in
      cc
  one_comes (Err f) (Ok its) p q =
      let e : Err f ≡ Ok q.1.blocks = one_outcome limits file (Err f) _ p q.1.file in
      cc
  one_comes (Ok its) (Err g) p q =
      let e : Ok p.1.blocks ≡ Err g = one_outcome limits file _ (Err g) p.1.file q in
      cc
  one_comes (Ok a) (Ok b) p q =
      let e : Ok p.1.blocks ≡ Ok q.1.blocks = one_outcome limits file _ _ p.1.file q.1.file in
      let same : p.1.blocks ≡ q.1.blocks = cc in
      let stations : p.0 ≡ q.0 = one_survey limits q.1.blocks p.0 q.0 small
      (subst (λ (h : History). AreStations limits h p.0) same p.1.stations_are) q.1.stations_are in
      cc

  -- A file that has stations has no fault.
  pub no_file_fault : (its : SurveyedStation) → IsStationOfFile limits file name its
      → (fault : Fault) → FileComesTo limits file (Err fault) → ⊥
  no_file_fault its s fault h =
      let e : Ok (Some its) ≡ Err fault = one_comes (Ok (Some its)) (Err fault) (found its s) h in
      cc

  -- A name has one station.
  pub same_station : (a b : SurveyedStation) → IsStationOfFile limits file name a
      → IsStationOfFile limits file name b → a ≡ b
  same_station a b s t =
      let e : Ok (Some a) ≡ Ok (Some b) = one_comes _ _ (found a s) (found b t) in
      cc

  -- And a file that has it is not without it.
  pub never_none : (its : SurveyedStation) → IsStationOfFile limits file name its
      → HasNoStation limits file name → ⊥
  never_none its s h =
      let e : Ok (Some its) ≡ Ok None =
      one_comes _ (Ok None) (found its s) (h.stations, h.survey, h.none) in
      cc

  module _ {A : Type 0} (So : SurveyedStation → Result A CompareFault → Type 0) where
    -- What is answered of what comes of the file, where this is said of its station.
    abbrev Says : Result (Option SurveyedStation) Fault → Result A CompareFault → Type 0
    Says (Err fault) r = r ≡ Err (File fault)
    Says (Ok None) r = r ≡ Err (File NoStation)
    Says (Ok (Some its)) r = So its r

    pub record IsOf (r : Result A CompareFault) : Type 0 where
      pub came : Result (Option SurveyedStation) Fault
      pub comes : ComesOf came
      pub says : Says came r

    pub of_fault : (fault : Fault) → FileComesTo limits file (Err fault)
        → IsOf (Err (File fault))
    of_fault fault h = record { came = Err fault; comes = h; says = refl }

    pub of_none : HasNoStation limits file name → IsOf (Err (File NoStation))
    of_none h = record { came = Ok None; comes = (h.stations, h.survey, h.none); says = refl }

    pub of_station : (its : SurveyedStation) (r : Result A CompareFault)
        → IsStationOfFile limits file name its → So its r → IsOf r
    of_station its r s h = record { came = Ok (Some its); comes = found its s; says = h }

    -- Where there is one answer of each station, there is one.
    pub one_of_each : ((its : SurveyedStation) (r s : Result A CompareFault) → So its r → So its s
        → r ≡ s) → (r s : Result A CompareFault) → IsOf r → IsOf s → r ≡ s
    one_of_each one r s p q = by q.came (subst (λ c. Says c r)
        (one_comes p.came q.came p.comes q.comes) p.says) q.says
      where
        by : (came : Result (Option SurveyedStation) Fault) → Says came r → Says came s → r ≡ s
        by (Err fault) h k = h ∙ sym k
        by (Ok None) h k = h ∙ sym k
        by (Ok (Some its)) h k = one its r s h k
