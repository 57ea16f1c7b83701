-- Each input has an answer that is not that memory ran out, where it does not rest on an
-- adjustment.
use Rattle.std.proofs.Common.{◌≡◌, ◌⊎◌, inl, inr, ℕ, Bool, List, [], ◌∷◌, map, length}
use Rattle.std.proofs.Common.{Option, Some, None, Result, Ok, Err, ℤ, pos, refl, sym, subst, arith}
use Rattle.std.proofs.lemmas.List.{length-map}
use Rattle.std.proofs.lemmas.List.Elements.{All-from_recursion, recursion_from_All}
use Rattle.std.specs.List.{AllByRecursion}
use Rattle.adjust_kernel.proofs.ConnectionLaws.{connected_or_divided}
use Rattle.adjust_kernel.specs.Connected.{IsDivided}
use Rattle.adjust_kernel.specs.Pairs.{turned_by}
use Rattle.adjust_kernel.specs.Stations.{StationValue}
use Rattle.adjust_kernel.specs.TurnedObservations.{TurnedObservation}
use Rattle.adjust_kernel.specs.Turns.{with_turns}
use Rattle.adjust_kernel.specs.declared.obs.Obs.{Obs}
use Rattle.byte_ends.specs.Input.{Input, Ended, BrokeOff, RanPast, input_within}
use Rattle.byte_ends.specs.Source.{Told}
use Rattle.direction_table.proofs.LawLemmas.{some_answer as table_or_fault}
use Rattle.direction_table.specs.declared.fault.TableFault.TheVariants as table
use Rattle.direction_table.specs.declared.reading.TheConstants.{LONGEST_TABLE}
use Rattle.exact_adjustment.specs.LeastOf.{AreTied, observed_with}
use Rattle.exact_adjustment.specs.declared.fault.AdjustFault.TheVariants as adjust
use Rattle.gsi_file.specs.FileAnswers.{FileAnswers}
use Rattle.gsi_file.specs.declared.file_fault.FileKind.{FileKind}
use Rattle.station_book.proofs.LawLemmas as book
use Rattle.station_book.specs.Faults.{fault_at_end}
use Rattle.station_book.specs.Limits.{AreLimits, FaceLimits}
use Rattle.station_book.specs.declared.result_limits.ResultLimits.{ResultLimits}
use Rattle.station_book.specs.Places.{History}
use Rattle.station_book.specs.Stations.{SurveyedStation, station_named}
use Rattle.station_book.specs.declared.fault.BookKind.{BookKind}
use Rattle.station_check.proofs.Acceptance.{came_well}
use Rattle.station_check.proofs.LawLemmas.{some_outcome, station_of_file}
use Rattle.station_check.specs.Means.{HasNoStation}
use Rattle.station_check.specs.Outcomes.{ComesTo, FileComesTo, at_end}
use Rattle.station_check.specs.StationOfFile.{IsStationOfFile}
use Rattle.station_check.specs.Surveys.{IsSurvey}
use Rattle.station_check.specs.declared.fault.Fault.{Fault}
use Rattle.station_check.specs.declared.fault.Fault.TheVariants.{NoStation}
use Rattle.station_compare.proofs.Comparisons.{compares_by_table}
use Rattle.station_compare.specs.Answers.{Compares}
use Rattle.station_compare.specs.Comparing.{ByInput}
use Rattle.station_compare.specs.OneAnswer.{IsNoMemory, IsUpToAdjustment}
use Rattle.station_compare.specs.declared.agreement.Agreement.{Agreement}
use Rattle.station_compare.specs.declared.fault.CompareFault.{CompareFault}
use Rattle.station_compare.specs.declared.fault.CompareFault.TheVariants.{File, TableRead, Table}
use Rattle.station_compare.specs.declared.fault.CompareFault.TheVariants.{Adjust}
use Rattle.direction_table.specs.declared.form.TableForm.{TableForm}

-- Lines come to blocks or to a fault of theirs, and never to this one.
at_the_end : (past : History) (o : Option BookKind) → Err NoStation ≡ at_end past o → ⊥
at_the_end past None e = cc
at_the_end past (Some kind) e = cc

pub never_no_station : (limits : FaceLimits) (past : History) (xs : List (List ℕ))
    (last : Option FileKind) → ComesTo limits past xs last (Err NoStation) → ⊥
never_no_station limits past [] (Some kind) h = cc
never_no_station limits past [] None h = at_the_end past (fault_at_end past) h
never_no_station limits past (x ∷ xs) last (inl h) = let e = h.answer in cc
never_no_station limits past (x ∷ xs) last (inr (inl h)) = let e = h.answer in cc
never_no_station limits past (x ∷ xs) last (inr (inr h)) =
    never_no_station limits (h.block ∷ past) xs last h.after

-- Whether a station's observations hold it together does not depend on full turns.
between : (p q : ℕ → Bool) (obs : List Obs) (ks ls : List ℤ) → length ks ≡ length obs
    → AllByRecursion (λ (r : TurnedObservation). p r.set ≡ q r.target)
    (with_turns (map (λ o. turned_by o (pos 0)) obs) ks)
    → AllByRecursion (λ (r : TurnedObservation). p r.set ≡ q r.target)
    (with_turns (map (λ o. turned_by o (pos 0)) obs) ls)
between p q [] ks ls e h = tt
between p q (o ∷ obs) [] ls e h = absurd (omega (arith, e))
between p q (o ∷ obs) (k ∷ ks) [] e h = tt
between p q (o ∷ obs) (k ∷ ks) (l ∷ ls) e h = (h.0, between p q obs ks ls (omega (arith, e)) h.1)

divided_too : (station : StationValue) (ks ls : List ℤ) → length ks ≡ length station.obs
    → IsDivided (length station.sets) (length station.targets) (observed_with station ks)
    → IsDivided (length station.sets) (length station.targets) (observed_with station ls)
divided_too station ks ls e d = record {
  part_of_set = d.part_of_set;
  part_of_target = d.part_of_target;
  none_between = All-from_recursion Inside (observed_with station ls)
      (between d.part_of_set d.part_of_target station.obs ks ls e
      (recursion_from_All Inside (observed_with station ks) d.none_between));
  first_part = d.first_part;
  second_part = d.second_part;
}
  where
    Inside : TurnedObservation → Type 0
    Inside r = d.part_of_set r.set ≡ d.part_of_target r.target

pub tied_or_not : (station : StationValue) → AreTied station ⊎ (AreTied station → ⊥)
tied_or_not station =
    let none = map (λ (o : Obs). pos 0) station.obs in
    elim (connected_or_divided (length station.sets) (length station.targets)
    (observed_with station none)) [
      | inl c ↦ inl (λ ks e d. c (divided_too station ks none e d))
      | inr d ↦ inr (λ tied. tied none (length-map station.obs (λ (o : Obs). pos 0)) d)
    ]

-- What comes of a file is a fault, no station of the name, or the station: where each of these has
-- an answer, the file has one.
module _ (limits : FaceLimits) (small : AreLimits limits) (file : FileAnswers) (name : List ℕ)
    (Answer : Type 0) (refused : (fault : Fault) → FileComesTo limits file (Err fault) → Answer)
    (missing : HasNoStation limits file name → Answer)
    (found : (its : SurveyedStation) → IsStationOfFile limits file name its → Answer) where
  by_name : (stations : List SurveyedStation) → IsSurvey limits file stations
      → (its : Option SurveyedStation) → station_named name stations ≡ its → Answer
  by_name stations survey None e =
      missing (record { stations = stations; survey = survey; none = e })
  by_name stations survey (Some its) e = found its ((station_of_file limits file name its small).0
      (record { stations = stations; survey = survey; named = e }))

  by_outcome : (came : Result History Fault) → FileComesTo limits file came → Answer
  by_outcome (Err fault) h = refused fault h
  by_outcome (Ok blocks) h =
      let well = came_well limits [] file.lines file.last blocks tt h in
      let survey = book.some_survey limits blocks small well.faultless in
      by_name survey.0 (record { blocks = blocks; file = h; stations_are = survey.1 })
      (station_named name survey.0) refl

  pub of_file : Answer
  of_file = let came = some_outcome limits file in by_outcome came.0 came.1

module _ (form : TableForm) (limits : ResultLimits) (small : AreLimits limits.faces) (file : FileAnswers)
    (stated : Told) (name : List ℕ) (within : Option ℕ) where
  abbrev AnAnswer : Type 0
  AnAnswer =
      ((r : Result Agreement CompareFault) × Compares form limits file stated name within r
      × IsNoMemory r)
      ⊎ IsUpToAdjustment form limits file stated name

  by_fault : (fault : Fault) → FileComesTo limits.faces file (Err fault) → AnAnswer
  by_fault NoStation h = absurd (never_no_station limits.faces [] file.lines file.last h)
  by_fault fault h = inl (Err (File fault), h, tt)

  -- Where the station was found, what comes of the table has an answer, or comes to an adjustment.
  module _ (its : SurveyedStation) (of : IsStationOfFile limits.faces file name its) where
    answered : (input : Input) → input_within LONGEST_TABLE stated ≡ input
        → (r : Result Agreement CompareFault) → ByInput form its.station limits.residual within input r
        → IsNoMemory r → AnAnswer
    answered input e r h settled = inl (
      r,
      compares_by_table form limits file stated name within its
          r of (subst (λ i. ByInput form its.station limits.residual within i r) (sym e) h),
      settled,
    )

    by_input : (input : Input) → input_within LONGEST_TABLE stated ≡ input → AnAnswer
    by_input (BrokeOff bytes) e = answered (BrokeOff bytes) e (Err TableRead) (inl refl) tt
    by_input RanPast e = answered RanPast e (Err (Table table.TooLong)) (inl refl) tt
    by_input (Ended bytes) e = elim (table_or_fault form its.station.targets bytes) [
      | inr h ↦ answered (Ended bytes) e (Err (Table h.0)) h.1 tt
      | inl h ↦ elim (tied_or_not its.station) [
        | inl tied ↦ inr (record {
          its = its;
          station = of;
          tied = tied;
          bytes = bytes;
          whole = e;
          directions = h.0;
          states = h.1;
        })
        | inr loose ↦ answered (Ended bytes) e (Err (Adjust adjust.NotConnected))
            (record { directions = h.0; states = h.1; fault_stands = loose }) tt
      ]
    ]

  pub some_answer : AnAnswer
  some_answer = of_file limits.faces small file name AnAnswer by_fault
      (λ h. inl (Err (File NoStation), h, tt))
      (λ its of. by_input its of (input_within LONGEST_TABLE stated) refl)
