-- Of a station and the bytes of a table that may lack targets one fault is told, and none where its
-- differences are.
use Rattle.std.proofs.Common.{◌≡◌, ℕ, List, Err, ap}
use Rattle.std.specs.Prelude.{⊤}
use Rattle.direction_table.proofs.LawLemmas as table
use Rattle.direction_table.proofs.OneAnswer.{part-or-fault as part_or_fault}
use Rattle.direction_table.specs.Tables.{IsTableFault}
use Rattle.direction_table.specs.declared.fault.TableFault.{TableFault}
use Rattle.direction_table.specs.declared.fault.TableFault.TheVariants.{Columns, Missing, Row}
use Rattle.direction_table.specs.declared.fault.TableFault.TheVariants.{TooLong}
use Rattle.direction_table.specs.declared.fault.TableFault.TheVariants as fault
use Rattle.direction_table.specs.declared.form.TableForm.{TableForm}
use Rattle.exact_adjustment.proofs.LawLemmas as adjustment
use Rattle.exact_adjustment.specs.LeastOf.{HasResidualsWithin}
use Rattle.exact_adjustment.specs.declared.fault.AdjustFault.{AdjustFault}
use Rattle.station_book.specs.Stations.{SurveyedStation}
use Rattle.station_book.specs.declared.result_limits.ResultLimits.{ResultLimits}
use Rattle.station_compare.proofs.Comparisons.{no_adjust_fault}
use Rattle.station_compare.specs.OneAnswer.{IsSettled}
use Rattle.station_compare.specs.declared.fault.CompareFault.{CompareFault}
use Rattle.station_compare.specs.declared.fault.CompareFault.TheVariants.{File, TableRead, Table}
use Rattle.station_compare.specs.declared.fault.CompareFault.TheVariants.{Adjust, Apart, Write}
use Rattle.station_compare.specs.declared.fault.CompareFault.TheVariants.{Memory}
use Rattle.station_differences.specs.Stating.{IsTextOfRows}
use Rattle.station_differences.specs.declared.line.TargetLine.{TargetLine}
use Rattle.table_answers.specs.Refusing.{IsOfBytes, IsPartUnadjusted, RefusesDifferences}

module _ (form : TableForm) (limits : ResultLimits) (its : SurveyedStation) (bytes : List ℕ) where
  -- A fault of the table is one of its bytes.
  of_table : (fault : TableFault) → RefusesDifferences form limits its bytes (Table fault)
      → IsTableFault form its.station.targets bytes fault
  of_table (Missing number) h = h.0
  of_table TooLong h = h
  of_table (Columns first second) h = h
  of_table (Row number kind) h = h
  of_table fault.Memory h = h

  -- Bytes with a fault are not adjusted beside.
  not_adjusted : (fault : TableFault) (why : AdjustFault)
      → RefusesDifferences form limits its bytes (Table fault)
      → ¬ IsPartUnadjusted form its.station limits.residual bytes why
  not_adjusted (Missing number) why h p =
      cc (h.1, p.enough, p.states.stated)
  not_adjusted TooLong why h p =
      part_or_fault form its.station.targets bytes p.stated TooLong p.states h (λ n e. cc e)
  not_adjusted (Columns first second) why h p =
      part_or_fault form its.station.targets bytes p.stated (Columns first second) p.states h
      (λ n e. cc e)
  not_adjusted (Row number kind) why h p =
      part_or_fault form its.station.targets bytes p.stated (Row number kind) p.states h
      (λ n e. cc e)
  not_adjusted fault.Memory why h p = h

  -- Two faults are one,
  pub one_differs : (a b : CompareFault) → IsSettled {A = ⊤} (Err a) → IsSettled {A = ⊤} (Err b)
      → RefusesDifferences form limits its bytes a → RefusesDifferences form limits its bytes b
      → a ≡ b
  one_differs (Table a) (Table b) set also p h =
      ap Table (table.one_fault form its.station.targets bytes a b (of_table a p) (of_table b h))
  one_differs (Table a) (Adjust b) set also p h = absurd (not_adjusted a b p h)
  one_differs (Adjust a) (Table b) set also p h = absurd (not_adjusted b a h p)
  one_differs (Adjust a) (Adjust b) set also p h =
      ap Adjust (adjustment.one_fault its.station limits.residual a b set also p.fault_stands
      h.fault_stands)
  one_differs Memory b set also p h = absurd set
  one_differs a Memory set also p h = absurd also
  one_differs (Table a) b set also p h = absurd h
  one_differs (Adjust a) b set also p h = absurd h
  one_differs a b set also p h = absurd p

  -- and where there are differences, there is none.
  pub never_differs : (written : List TargetLine → List ℕ) (text : List ℕ) (fault : CompareFault)
      → HasResidualsWithin its.station limits.residual → IsSettled {A = ⊤} (Err fault)
      → IsTextOfRows written form its.station bytes text
      → ¬ RefusesDifferences form limits its bytes fault
  never_differs written text (Table (Missing number)) held set p h =
      cc (h.1, p.enough, p.states.stated)
  never_differs written text (Table TooLong) held set p h =
      part_or_fault form its.station.targets bytes p.stated TooLong p.states h (λ n e. cc e)
  never_differs written text (Table (Columns first second)) held set p h =
      part_or_fault form its.station.targets bytes p.stated (Columns first second) p.states h
      (λ n e. cc e)
  never_differs written text (Table (Row number kind)) held set p h =
      part_or_fault form its.station.targets bytes p.stated (Row number kind) p.states h
      (λ n e. cc e)
  never_differs written text (Table fault.Memory) held set p h = h
  never_differs written text (Adjust why) held set p h =
      no_adjust_fault its.station limits.residual why p.are_lines.rounded.adjustable held set
      h.fault_stands
  never_differs written text Memory held set p h = set
  never_differs written text why held set p h = h

-- None is of the field file, or of the table's reader.
pub differs_of_bytes : (form : TableForm) (limits : ResultLimits) (its : SurveyedStation)
    (bytes : List ℕ) (fault : CompareFault) → RefusesDifferences form limits its bytes fault
    → IsOfBytes fault
differs_of_bytes form limits its bytes (File fault) h = h
differs_of_bytes form limits its bytes TableRead h = h
differs_of_bytes form limits its bytes (Table fault) h = tt
differs_of_bytes form limits its bytes (Adjust fault) h = tt
differs_of_bytes form limits its bytes (Apart apart) h = absurd h
differs_of_bytes form limits its bytes Write h = absurd h
differs_of_bytes form limits its bytes Memory h = tt
