-- From the text of a station to what is answered of a field file, and that the answer is one.
use Rattle.std.proofs.Common.{◌≡◌, ℕ, List, Result, Ok, Err, ap}
use Rattle.std.specs.Prelude.{MatchResult, OnOk}
use Rattle.adjust_kernel.specs.Stations.{StationValue}
use Rattle.byte_ends.specs.Came.{IsReadOut, Leaves}
use Rattle.byte_ends.specs.Source.{ReaderChange}
use Rattle.exact_adjustment.proofs.LawLemmas.{one_fault}
use Rattle.exact_adjustment.specs.LeastOf.{HasResidualsWithin}
use Rattle.gsi_file.specs.FileAnswers.{FileAnswers}
use Rattle.least_directions.specs.LeastDirections.{IsAdjustable}
use Rattle.station_answers.specs.Answers.{HasNoText, HasNone, StatesOf, TellsOf}
use Rattle.station_book.specs.Limits.{AreLimits}
use Rattle.station_book.specs.declared.result_limits.ResultLimits.{ResultLimits}
use Rattle.station_book.specs.Stations.{SurveyedStation}
use Rattle.station_check.specs.Answerable.{IsOfFile}
use Rattle.station_check.specs.NotedSurveys.{NotesSurvey}
use Rattle.station_check.specs.StationOfFile.{IsStationOfFile}
use Rattle.station_check.specs.declared.fault.Fault.{Fault}
use Rattle.station_check.specs.declared.fault.Fault.TheVariants as file
use Rattle.station_compare.proofs.Comparisons.{no_adjust_fault}
use Rattle.station_compare.proofs.Hinting.{IsOfNoFile, fault_of_hinted, hinted_by_station}
use Rattle.station_compare.proofs.OneStation.{IsOf, of_fault, of_none, of_station, one_of_each}
use Rattle.station_compare.specs.Answers.{field_file_left}
use Rattle.station_compare.specs.Faults.{of_file}
use Rattle.station_compare.specs.Hints.{IsHinted}
use Rattle.station_compare.specs.OneAnswer.{IsSettled}
use Rattle.station_compare.specs.Refusals.{by_fault, hinted}
use Rattle.station_compare.specs.declared.fault.CompareFault.{CompareFault}
use Rattle.station_compare.specs.declared.fault.CompareFault.TheVariants.{File, Adjust, Memory}

-- What is answered of a fault of the field file.
pub none_by_file : (limits : ResultLimits) (lines : FileAnswers) (name : List ℕ) (fault : Fault)
    → IsOfFile fault → NotesSurvey limits.faces lines (Err fault)
    → HasNone limits lines name (of_file fault)
none_by_file limits lines name file.NoStation o h = absurd o
none_by_file limits lines name file.Memory o h = tt
none_by_file limits lines name fault o h = h

-- How what is answered of a station leaves the reader.
pub left_by_station : {T : Type 0} (OfStation : T → Type 0) (station : StationValue)
    (residual : ℕ) (r : Result T CompareFault) (gsi : ReaderChange)
    → MatchResult r OfStation (HasNoText station residual)
    → IsReadOut gsi → Leaves field_file_left r gsi
left_by_station OfStation station residual (Ok t) gsi h out = out
left_by_station OfStation station residual (Err (Adjust fault)) gsi h out = out
left_by_station OfStation station residual (Err Memory) gsi h out = out.unfailed
left_by_station OfStation station residual (Err fault) gsi h out = absurd h

-- No fault of the field file comes of the text of a station.
of_no_file : {T : Type 0} (OfStation : T → Type 0) (station : StationValue) (residual : ℕ)
    (r : Result T CompareFault) → MatchResult r OfStation (HasNoText station residual)
    → IsOfNoFile r
of_no_file OfStation station residual (Ok t) h = tt
of_no_file OfStation station residual (Err (File fault)) h = absurd h
of_no_file OfStation station residual (Err fault) h = tt

module _ (Says : SurveyedStation → List ℕ → Type 0) (limits : ResultLimits) (lines : FileAnswers)
    (name : List ℕ) where
  -- What is answered, where the station was found: what its text says of it, and that its residuals
  -- are held, is said of the file.
  pub tells_by_station : {T : Type 0} (items : T → List ℕ) (its : SurveyedStation)
      (r : Result T CompareFault) → IsStationOfFile limits.faces lines name its
      → MatchResult r (λ t. Says its (items t)) (HasNoText its.station limits.residual)
      → OnOk r (HasResidualsWithin its.station limits.residual)
      → MatchResult r (λ t. StatesOf Says limits lines name (items t)) (HasNone limits lines name)
  tells_by_station items its (Ok text) station h held =
      record { its = its; station = station; held = held; said = h }
  tells_by_station items its (Err (File fault)) station h held = absurd h
  tells_by_station items its (Err Memory) station h held = tt
  tells_by_station items its (Err fault) station h held =
      record { its = its; station = station; none = h }

  -- The same with the hint of a refusal.
  pub answers_by_station : {T : Type 0} (items : T → List ℕ) (its : SurveyedStation)
      (r : Result T CompareFault) → IsStationOfFile limits.faces lines name its
      → MatchResult r (λ t. Says its (items t)) (HasNoText its.station limits.residual)
      → OnOk r (HasResidualsWithin its.station limits.residual)
      → MatchResult (by_fault (hinted its.station limits.residual r))
      (λ t. StatesOf Says limits lines name (items t)) (HasNone limits lines name)
      × IsHinted limits lines name (hinted its.station limits.residual r)
  answers_by_station items its r station h held = (
    rw (fault_of_hinted its.station limits.residual r)
        (tells_by_station items its r station h held),
    hinted_by_station limits lines name its r station
        (of_no_file (λ t. Says its (items t)) its.station limits.residual r h),
  )

  module _ (small : AreLimits limits.faces)
      (adjusts : (its : SurveyedStation) (text : List ℕ) → Says its text
      → IsAdjustable its.station)
      (one : (its : SurveyedStation) (a b : List ℕ) → Says its a → Says its b → a ≡ b)
    where
      -- What is answered of a station.
      abbrev Fits : SurveyedStation → Result (List ℕ) CompareFault → Type 0
      Fits its (Ok text) = HasResidualsWithin its.station limits.residual × Says its text
      Fits its (Err fault) = HasNoText its.station limits.residual fault

      one_of_station : (its : SurveyedStation) (r s : Result (List ℕ) CompareFault) → IsSettled r
          → IsSettled s → Fits its r → Fits its s → r ≡ s
      one_of_station its (Ok a) (Ok b) set also p h = ap Ok (one its a b p.1 h.1)
      one_of_station its (Ok a) (Err (Adjust g)) set also p h =
          absurd (no_adjust_fault its.station limits.residual g (adjusts its a p.1) p.0 also h)
      one_of_station its (Err (Adjust f)) (Ok b) set also p h =
          absurd (no_adjust_fault its.station limits.residual f (adjusts its b h.1) h.0 set p)
      one_of_station its (Err (Adjust f)) (Err (Adjust g)) set also p h =
          ap (λ k. Err (Adjust k)) (one_fault its.station limits.residual f g set also p h)
      one_of_station its r s set also p h = absurd (assumption)

      abbrev So : SurveyedStation → Result (List ℕ) CompareFault → Type 0
      So its r = IsSettled r × Fits its r

      stands : (r : Result (List ℕ) CompareFault) → IsSettled r → TellsOf Says limits lines name r
          → IsOf limits.faces small lines name So r
      stands (Ok text) set h =
          of_station limits.faces small lines name So h.its (Ok text) h.station
          (set, (h.held, h.said))
      stands (Err (File file.NoStation)) set h = of_none limits.faces small lines name So h
      stands (Err (File fault)) set h = of_fault limits.faces small lines name So fault h
      stands (Err Memory) set h = absurd set
      stands (Err fault) set h =
          of_station limits.faces small lines name So h.its (Err fault) h.station (set, h.none)

      -- What is answered is one.
      pub one_answer : (r s : Result (List ℕ) CompareFault) → IsSettled r → IsSettled s
          → TellsOf Says limits lines name r → TellsOf Says limits lines name s → r ≡ s
      one_answer r s set also p h = one_of_each limits.faces small lines name So
          (λ its x y a b. one_of_station its x y a.0 b.0 a.1 b.1) r s (stands r set p)
          (stands s also h)
