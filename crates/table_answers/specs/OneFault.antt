-- Of a station and the bytes of a table one fault is told, and none where they are compared.
use Rattle.std.proofs.Common.{◌≡◌, ℕ, List, Some, None, Err, arith}
use Rattle.std.specs.Prelude.{⊤}
use Rattle.direction_table.proofs.LawLemmas.{never_both}
use Rattle.direction_table.specs.declared.form.TableForm.{TableForm}
use Rattle.exact_adjustment.specs.LeastOf.{HasResidualsWithin}
use Rattle.station_book.specs.Stations.{SurveyedStation}
use Rattle.station_book.specs.declared.result_limits.ResultLimits.{ResultLimits}
use Rattle.station_compare.proofs.Comparisons.{no_adjust_fault}
use Rattle.station_compare.proofs.OneAnswer.{one_by_table}
use Rattle.station_compare.specs.OneAnswer.{IsSettled}
use Rattle.station_compare.specs.declared.agreement.Agreement.{Agreement}
use Rattle.station_compare.specs.declared.fault.CompareFault.{CompareFault}
use Rattle.station_compare.specs.declared.fault.CompareFault.TheVariants.{File, TableRead, Table}
use Rattle.station_compare.specs.declared.fault.CompareFault.TheVariants.{Adjust, Apart, Write}
use Rattle.station_compare.specs.declared.fault.CompareFault.TheVariants.{Memory}
use Rattle.table_answers.specs.Refusing.{IsComparable, IsOfBytes, RefusesComparison}

-- A fault that is settled is so as the answer of any call.
pub settled_too : (A B : Type 0) (fault : CompareFault) → IsSettled {A = A} (Err fault)
    → IsSettled {A = B} (Err fault)
settled_too A B (File fault) set = tt
settled_too A B TableRead set = tt
settled_too A B (Table fault) set = tt
settled_too A B (Adjust fault) set = set
settled_too A B (Apart apart) set = tt
settled_too A B Write set = tt
settled_too A B Memory set = absurd set

module _ (form : TableForm) (limits : ResultLimits) (its : SurveyedStation) (bytes : List ℕ) where
  -- Two faults are one,
  pub one_refused : (a b : CompareFault) → IsSettled {A = ⊤} (Err a)
      → IsSettled {A = ⊤} (Err b) → RefusesComparison form limits its bytes a
      → RefusesComparison form limits its bytes b → a ≡ b
  one_refused a b set also p h =
      let e : Err a ≡ Err b =
      one_by_table form its.station limits.residual bytes None (Err a) (Err b)
      (settled_too ⊤ Agreement a set) (settled_too ⊤ Agreement b also)
      (p None) (h None) in
      cc

  -- and where both can be compared, there is none: a limit of differences that two comparisons share
  -- is not both of theirs.
  pub never_refused : (fault : CompareFault)
      → HasResidualsWithin its.station limits.residual → IsComparable form its.station bytes
      → IsSettled {A = ⊤} (Err fault) → ¬ RefusesComparison form limits its bytes fault
  never_refused (File fault) held p set h = h None
  never_refused TableRead held p set h = h None
  never_refused (Table fault) held p set h =
      never_both form its.station.targets bytes p.directions fault p.states (h None)
  never_refused (Adjust fault) held p set h =
      no_adjust_fault its.station limits.residual fault p.adjustable held set (h None).fault_stands
  never_refused (Apart n) held p set h =
      let none : n.limit ≡ 0 = (h (Some 0)).1.limit in
      let one : n.limit ≡ 1 = (h (Some 1)).1.limit in
      absurd (omega (arith, none, one))
  never_refused Write held p set h = h None
  never_refused Memory held p set h = set

-- None is of the field file, or of the table's reader.
pub refused_of_bytes : (form : TableForm) (limits : ResultLimits) (its : SurveyedStation)
    (bytes : List ℕ) (fault : CompareFault) → RefusesComparison form limits its bytes fault
    → IsOfBytes fault
refused_of_bytes form limits its bytes (File fault) h = h None
refused_of_bytes form limits its bytes TableRead h = h None
refused_of_bytes form limits its bytes (Table fault) h = tt
refused_of_bytes form limits its bytes (Adjust fault) h = tt
refused_of_bytes form limits its bytes (Apart apart) h = tt
refused_of_bytes form limits its bytes Write h = tt
refused_of_bytes form limits its bytes Memory h = tt
