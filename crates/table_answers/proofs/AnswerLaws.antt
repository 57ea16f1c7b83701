-- What is answered of a station and a table is one.
use Rattle.std.proofs.Common.{◌≡◌, ℕ, List, Result, Ok, Err, ap, inl, inr, sym, subst, ◌∙◌}
use Rattle.std.specs.Prelude.{⊤}
use Rattle.byte_ends.specs.Input.{BrokeOff, Ended, Input, RanPast, input_within}
use Rattle.byte_ends.specs.Source.{Told}
use Rattle.direction_table.specs.declared.reading.TheConstants.{LONGEST_TABLE}
use Rattle.exact_adjustment.specs.LeastOf.{HasResidualsWithin}
use Rattle.gsi_file.specs.FileAnswers.{FileAnswers}
use Rattle.station_book.specs.Limits.{AreLimits}
use Rattle.station_book.specs.Stations.{SurveyedStation}
use Rattle.station_book.specs.declared.result_limits.ResultLimits.{ResultLimits}
use Rattle.station_check.specs.declared.fault.Fault.TheVariants.{NoStation}
use Rattle.station_compare.proofs.OneStation.{IsOf, of_fault, of_none, of_station, one_of_each}
use Rattle.station_compare.specs.Comparing.{IsFaultOrMemory}
use Rattle.station_compare.specs.OneAnswer.{IsSettled}
use Rattle.station_compare.specs.declared.fault.CompareFault.{CompareFault}
use Rattle.station_compare.specs.declared.fault.CompareFault.TheVariants.{File, Memory}
use Rattle.table_answers.specs.Answers.{TellsBeside}
use Rattle.table_answers.specs.OneFault.{settled_too}
use Rattle.table_answers.specs.Refusing.{RefusesInput}

-- What a fault of the table's reader is, where memory did not run out.
is_fault : (V : Type 0) (fault other : CompareFault) → IsSettled {A = V} (Err fault)
    → IsFaultOrMemory (Err fault) other → fault ≡ other
is_fault V fault other set (inl e) = cc
is_fault V fault other set (inr e) =
    let memory : fault ≡ Memory = cc in
    absurd (subst (λ f. IsSettled {A = V} (Err f)) memory set)

module _ {V : Type 0} (Says : SurveyedStation → List ℕ → V → Type 0)
    (Refuses : SurveyedStation → List ℕ → CompareFault → Type 0)
    (one : (its : SurveyedStation) (bytes : List ℕ) (a b : V) → Says its bytes a
    → Says its bytes b → a ≡ b)
    (one_fault : (its : SurveyedStation) (bytes : List ℕ) (a b : CompareFault)
    → IsSettled {A = ⊤} (Err a) → IsSettled {A = ⊤} (Err b) → Refuses its bytes a
    → Refuses its bytes b → a ≡ b)
    (limits : ResultLimits)
    (never_both : (its : SurveyedStation) (bytes : List ℕ) (a : V) (fault : CompareFault)
    → HasResidualsWithin its.station limits.residual → IsSettled {A = ⊤} (Err fault)
    → Says its bytes a → ¬ Refuses its bytes fault)
    (small : AreLimits limits.faces) (file : FileAnswers) (stated : Told) (name : List ℕ)
  where
    abbrev input : Input
    input = input_within LONGEST_TABLE stated

    -- The table was read to its end, and this is said of it and of a station whose residuals keep
    -- their limit.
    record HasValue (its : SurveyedStation) (value : V) : Type 0 where
      held : HasResidualsWithin its.station limits.residual
      bytes : List ℕ
      whole : input ≡ Ended bytes
      said : Says its bytes value

    -- What is answered of a station.
    abbrev So : SurveyedStation → Result V CompareFault → Type 0
    So its (Ok value) = HasValue its value
    So its (Err fault) = IsSettled {A = V} (Err fault) × RefusesInput (Refuses its) input fault

    never : (its : SurveyedStation) (value : V) (fault : CompareFault) → So its (Ok value)
        → So its (Err fault) → ⊥
    never its value fault p h =
        never_both its p.bytes value fault p.held (settled_too V ⊤ fault h.0) p.said
        (subst (λ (i : Input). RefusesInput (Refuses its) i fault) p.whole h.1)

    one_of_input : (its : SurveyedStation) (i : Input) (a b : CompareFault)
        → IsSettled {A = V} (Err a) → IsSettled {A = V} (Err b) → RefusesInput (Refuses its) i a
        → RefusesInput (Refuses its) i b → a ≡ b
    one_of_input its (Ended bytes) a b set also p h =
        one_fault its bytes a b (settled_too V ⊤ a set)
        (settled_too V ⊤ b also) p h
    one_of_input its (BrokeOff bytes) a b set also p h =
        is_fault V a _ set p ∙ sym (is_fault V b _ also h)
    one_of_input its RanPast a b set also p h =
        is_fault V a _ set p ∙ sym (is_fault V b _ also h)

    one_of_station : (its : SurveyedStation) (r s : Result V CompareFault) → So its r
        → So its s → r ≡ s
    one_of_station its (Ok a) (Ok b) p h =
        let ended : Ended p.bytes ≡ Ended h.bytes = sym p.whole ∙ h.whole in
        let bytes : p.bytes ≡ h.bytes = cc in
        ap Ok (one its h.bytes a b
        (subst (λ (bs : List ℕ). Says its bs a) bytes p.said) h.said)
    one_of_station its (Ok a) (Err fault) p h = absurd (never its a fault p h)
    one_of_station its (Err fault) (Ok b) p h = absurd (never its b fault h p)
    one_of_station its (Err fault) (Err other) p h =
        ap Err (one_of_input its input fault other p.0 h.0 p.1 h.1)

    stands : (r : Result V CompareFault) → IsSettled r
        → TellsBeside Says Refuses limits file stated name r
        → IsOf limits.faces small file name So r
    stands (Ok value) set h =
        of_station limits.faces small file name So h.its (Ok value) h.station
        (record { held = h.held; bytes = h.bytes; whole = h.whole; said = h.said })
    stands (Err (File NoStation)) set h = of_none limits.faces small file name So h
    stands (Err (File fault)) set h = of_fault limits.faces small file name So fault h
    stands (Err Memory) set h = absurd set
    stands (Err fault) set h =
        of_station limits.faces small file name So h.its (Err fault) h.station (set, h.by_input)

    -- What came of two readers has one answer.
    pub one_answer : (r s : Result V CompareFault) → IsSettled r → IsSettled s
        → TellsBeside Says Refuses limits file stated name r
        → TellsBeside Says Refuses limits file stated name s → r ≡ s
    one_answer r s set also p h =
        one_of_each limits.faces small file name So one_of_station r s (stands r set p)
        (stands s also h)
