-- A comparison has one answer.
use Rattle.std.proofs.Common.{◌≡◌, ◌⊎◌, inl, inr, ℕ, List, Result, Ok, Err, ap, refl, sym, subst}
use Rattle.std.proofs.Common.{◌∙◌, length, Option}
use Rattle.std.specs.Prelude.{if◌then◌else◌, nat_le, ⊤}
use Rattle.std.proofs.lemmas.Bool.{le-leb, lt-leb}
use Rattle.adjust_kernel.specs.Stations.{StationValue}
use Rattle.byte_ends.specs.Input.{Input, Ended, BrokeOff, RanPast, input_within}
use Rattle.byte_ends.specs.Source.{Told}
use Rattle.direction_table.proofs.LawLemmas.{never_both, one_fault, one_table}
use Rattle.direction_table.specs.Tables.{IsTableFault}
use Rattle.direction_table.specs.declared.fault.TableFault.{TableFault}
use Rattle.direction_table.specs.declared.reading.TheConstants.{LONGEST_TABLE}
use Rattle.direction_table.specs.declared.form.TableForm.{TableForm}
use Rattle.directions_apart.specs.Apart.{stated_by}
use Rattle.exact_adjustment.proofs.LawLemmas as adjustment
use Rattle.exact_adjustment.specs.Faults.{IsOfStation}
use Rattle.exact_adjustment.specs.LeastOf.{HasResidualsWithin}
use Rattle.exact_adjustment.specs.declared.fault.AdjustFault.{AdjustFault}
use Rattle.gsi_file.specs.FileAnswers.{FileAnswers}
use Rattle.least_directions.proofs.LawLemmas.{one_distance}
use Rattle.least_directions.specs.LeastDirections.{AreApart}
use Rattle.station_book.specs.Limits.{AreLimits}
use Rattle.station_book.specs.declared.result_limits.ResultLimits.{ResultLimits}
use Rattle.station_book.specs.Stations.{SurveyedStation}
use Rattle.station_check.specs.declared.fault.Fault.TheVariants.{NoStation}
use Rattle.station_results.proofs.LeastLaws.{one_size}
use Rattle.station_compare.proofs.Comparisons.{compared_of, no_adjust_fault}
use Rattle.station_compare.proofs.OneStation.{IsOf, of_fault, of_none, of_station, one_of_each}
use Rattle.station_compare.specs.Answers.{Compares}
use Rattle.station_compare.specs.Comparing.{ByInput, ByTable, IsComparedWith, IsUnadjusted}
use Rattle.station_compare.specs.LimitInForce.{limit_in_force, off_in}
use Rattle.station_compare.specs.OneAnswer.{IsSettled}
use Rattle.station_compare.specs.declared.agreement.Agreement.{Agreement}
use Rattle.station_compare.specs.declared.fault.CompareFault.{CompareFault}
use Rattle.station_compare.specs.declared.fault.CompareFault.TheVariants.{File, TableRead, Table}
use Rattle.station_compare.specs.declared.fault.CompareFault.TheVariants.{Adjust, Apart, Memory}

module _ (form : TableForm) (station : StationValue) (residual : ℕ) (bytes : List ℕ) where
  -- What the bytes of a table come to: their fault, that of the adjustment, or how far they are
  -- apart.
  abbrev ComeTo : Result (Result ℕ AdjustFault) TableFault → Type 0
  ComeTo (Err fault) = IsTableFault form station.targets bytes fault
  ComeTo (Ok (Err fault)) = IsUnadjusted form station residual bytes fault × IsOfStation fault
  ComeTo (Ok (Ok apart)) =
      HasResidualsWithin station residual × IsComparedWith form station bytes apart

  -- Bytes with a fault are not compared, nor is their station adjusted.
  no_table : (fault : TableFault) (r : Result ℕ AdjustFault) → ComeTo (Err fault) → ComeTo (Ok r)
      → ⊥
  no_table fault (Ok n) h p =
      never_both form station.targets bytes p.1.directions fault p.1.states h
  no_table fault (Err f) h p =
      never_both form station.targets bytes p.0.directions fault p.0.states h

  -- They come to one thing.
  one_outcome : (a b : Result (Result ℕ AdjustFault) TableFault) → ComeTo a → ComeTo b → a ≡ b
  one_outcome (Err f) (Err g) p q = ap Err (one_fault form station.targets bytes f g p q)
  one_outcome (Err f) (Ok b) p q = absurd (no_table f b p q)
  one_outcome (Ok a) (Err g) p q = absurd (no_table g a q p)
  one_outcome (Ok (Err f)) (Ok (Err g)) p q =
      ap (λ h. Ok (Err h))
      (adjustment.one_fault station residual f g p.1 q.1 p.0.fault_stands q.0.fault_stands)
  one_outcome (Ok (Err f)) (Ok (Ok n)) p q =
      absurd (no_adjust_fault station residual f q.1.are_apart.adjustable q.0 p.1 p.0.fault_stands)
  one_outcome (Ok (Ok n)) (Ok (Err g)) p q =
      absurd (no_adjust_fault station residual g p.1.are_apart.adjustable p.0 q.1 q.0.fault_stands)
  one_outcome (Ok (Ok n)) (Ok (Ok m)) p q =
      let same = one_table form station.targets bytes p.1.directions q.1.directions p.1.states
      q.1.states in
      let off = off_in form station.targets bytes in
      ap (λ k. Ok (Ok k)) (one_distance station (stated_by q.1.directions) off n m
      (subst (λ ds. AreApart station (stated_by ds) off n) same p.1.are_apart) q.1.are_apart)

  module _ (within : Option ℕ) where
    -- What is answered of it, where this is the size of the greatest residual.
    abbrev answer_of : ℕ → Result (Result ℕ AdjustFault) TableFault
        → Result Agreement CompareFault
    answer_of greatest (Err fault) = Err (Table fault)
    answer_of greatest (Ok (Err fault)) = Err (Adjust fault)
    answer_of greatest (Ok (Ok apart)) =
        let limit = limit_in_force form within station.targets bytes in
        if nat_le apart limit
        then Ok (record {
          name = station.name;
          sets = length station.sets;
          targets = length station.targets;
          how_far = record { apart = apart; limit = limit };
          greatest = greatest;
        })
        else Err (Apart (record { apart = apart; limit = limit }))

    -- An answer that says a greatest residual says this one.
    abbrev SaysGreatest : ℕ → Result Agreement CompareFault → Type 0
    SaysGreatest greatest (Ok a) = a.greatest ≡ greatest
    SaysGreatest greatest (Err fault) = ⊤

    answers : (greatest : ℕ) (r : Result Agreement CompareFault) → SaysGreatest greatest r
        → IsSettled r → ByTable form station residual within bytes r
        → (c : Result (Result ℕ AdjustFault) TableFault) × ComeTo c × (r ≡ answer_of greatest c)
    answers greatest (Ok a) says set h = (
      Ok (Ok a.how_far.apart),
      (h.how_far.held, h.how_far.compared),
      rw (← h.how_far.limit, le-leb _ _ h.agrees, ← h.named, ← h.counted_sets, ← h.counted, ← says) refl,
    )
    answers greatest (Err (Table fault)) says set h = (Err fault, h, refl)
    answers greatest (Err (Adjust fault)) says set h = (Ok (Err fault), (h, set), refl)
    answers greatest (Err (Apart n)) says set h =
        (Ok (Ok n.apart), (h.1.held, h.1.compared), rw (← h.1.limit, lt-leb _ _ h.0) refl)
    answers greatest (Err Memory) says set h = absurd set
    answers greatest (Err fault) says set h = absurd h

    -- Two answers say one.
    one_greatest : (r s : Result Agreement CompareFault)
        → ByTable form station residual within bytes r
        → ByTable form station residual within bytes s
        → (greatest : ℕ) × SaysGreatest greatest r × SaysGreatest greatest s
    one_greatest (Ok a) (Ok b) p h =
        (a.greatest, refl, one_size station b.greatest a.greatest h.greatest p.greatest)
    one_greatest (Ok a) (Err fault) p h = (a.greatest, refl, tt)
    one_greatest (Err fault) (Ok b) p h = (b.greatest, tt, refl)
    one_greatest (Err f) (Err g) p h = (0, tt, tt)

    pub one_by_table : (r s : Result Agreement CompareFault) → IsSettled r → IsSettled s
        → ByTable form station residual within bytes r
        → ByTable form station residual within bytes s → r ≡ s
    one_by_table r s set also p h =
        let (greatest, says, says_too) = one_greatest r s p h in
        let (a, comes, is) = answers greatest r says set p in
        let (b, too, same) = answers greatest s says_too also h in
        is ∙ ap (answer_of greatest) (one_outcome a b comes too) ∙ sym same

-- What a fault of the table's reader stands for.
is_fault : (r : Result Agreement CompareFault) (fault : CompareFault) → IsSettled r
    → (r ≡ Err fault) ⊎ (r ≡ Err Memory) → r ≡ Err fault
is_fault r fault set (inl e) = e
is_fault r fault set (inr e) = absurd (subst IsSettled e set)

pub one_by_input : (form : TableForm) (station : StationValue) (residual : ℕ) (within : Option ℕ)
    (input : Input) (r s : Result Agreement CompareFault) → IsSettled r → IsSettled s
    → ByInput form station residual within input r
    → ByInput form station residual within input s → r ≡ s
one_by_input form station residual within (Ended bytes) r s set also p h =
    one_by_table form station residual bytes within r s set also p h
one_by_input form station residual within (BrokeOff bytes) r s set also p h =
    is_fault r TableRead set p ∙ sym (is_fault s TableRead also h)
one_by_input form station residual within RanPast r s set also p h =
    is_fault r _ set p ∙ sym (is_fault s _ also h)

module _ (form : TableForm) (limits : ResultLimits) (small : AreLimits limits.faces) (file : FileAnswers)
    (stated : Told) (name : List ℕ) (within : Option ℕ) where
  -- What is said of an answer's station.
  abbrev So : SurveyedStation → Result Agreement CompareFault → Type 0
  So its r =
      IsSettled r
      × ByInput form its.station limits.residual within (input_within LONGEST_TABLE stated) r

  stands : (r : Result Agreement CompareFault) → IsSettled r
      → Compares form limits file stated name within r → IsOf limits.faces small file name So r
  stands (Ok a) set h = of_station limits.faces small file name So h.its (Ok a) h.station (
    tt,
    subst (λ (input : Input). ByInput form h.its.station limits.residual within input (Ok a))
        (sym h.whole)
        (record {
          how_far = record {
            held = h.held;
            compared = compared_of form limits file stated name within a h;
            limit = h.limit;
          };
          agrees = h.agrees;
          greatest = h.greatest;
          named = h.named;
          counted_sets = h.counted_sets;
          counted = h.counted;
        }),
  )
  stands (Err (File NoStation)) set h = of_none limits.faces small file name So h
  stands (Err (File fault)) set h = of_fault limits.faces small file name So fault h
  stands (Err Memory) set h = absurd set
  stands (Err fault) set h =
      of_station limits.faces small file name So h.its (Err fault) h.station (set, h.by_input)

  -- A comparison has one answer.
  pub one_answer : (r s : Result Agreement CompareFault) → IsSettled r → IsSettled s
      → Compares form limits file stated name within r
      → Compares form limits file stated name within s → r ≡ s
  one_answer r s set also p h = one_of_each limits.faces small file name So
      (λ its x y a b. one_by_input form its.station limits.residual within _ x y a.0 b.0 a.1 b.1) r s
      (stands r set p) (stands s also h)
