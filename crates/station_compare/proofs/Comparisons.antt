-- From the parts of a comparison to what it answers.
use Rattle.std.proofs.Common.{◌≡◌, ℕ, List, Result, Ok, Err, refl, inl, inr, Option}
use Rattle.adjust_kernel.specs.Stations.{StationValue}
use Rattle.byte_ends.specs.Input.{Input, Ended, BrokeOff, RanPast, input_within}
use Rattle.byte_ends.specs.Came.{IsLeftAs, IsUnasked, Leaves}
use Rattle.byte_ends.specs.Source.{Told, ReaderChange}
use Rattle.direction_table.specs.declared.reading.TheConstants.{LONGEST_TABLE}
use Rattle.exact_adjustment.proofs.LawLemmas.{never_held}
use Rattle.exact_adjustment.specs.Faults.{IsAdjustFault, IsOfStation}
use Rattle.exact_adjustment.specs.LeastOf.{HasResidualsWithin}
use Rattle.exact_adjustment.specs.declared.fault.AdjustFault.{AdjustFault}
use Rattle.gsi_file.specs.FileAnswers.{FileAnswers}
use Rattle.least_directions.specs.LeastDirections.{IsAdjustable}
use Rattle.station_book.specs.declared.result_limits.ResultLimits.{ResultLimits}
use Rattle.station_book.specs.Stations.{SurveyedStation}
use Rattle.station_check.specs.Answerable.{IsOfFile, file_left}
use Rattle.station_check.specs.StationOfFile.{IsStationOfFile}
use Rattle.station_check.specs.Surveys.{Surveys}
use Rattle.station_check.specs.declared.fault.Fault.{Fault}
use Rattle.station_check.specs.declared.fault.Fault.TheVariants as file
use Rattle.station_compare.specs.Agreeing.{Agrees}
use Rattle.station_compare.specs.Answers.{Compares, field_file_left, table_left}
use Rattle.station_compare.specs.Comparing.{ByInput, IsAgreement, IsComparedWith}
use Rattle.station_compare.specs.Faults.{of_file}
use Rattle.station_compare.specs.declared.agreement.Agreement.{Agreement}
use Rattle.station_compare.specs.declared.fault.CompareFault.{CompareFault}
use Rattle.station_compare.specs.declared.fault.CompareFault.TheVariants.{File, Memory}
use Rattle.direction_table.specs.declared.form.TableForm.{TableForm}

-- A table that agrees was read to its end.
ended_by : (form : TableForm) (station : StationValue) (residual : ℕ) (within : Option ℕ)
    (a : Agreement) (input : Input)
    → ByInput form station residual within input (Ok a)
    → (bytes : List ℕ) × (input ≡ Ended bytes) × IsAgreement form station residual bytes within a
ended_by form station residual within a (Ended bytes) h = (bytes, refl, h)
ended_by form station residual within a (BrokeOff bytes) h = elim h [ inl e ↦ cc | inr e ↦ cc ]
ended_by form station residual within a RanPast h = elim h [ inl e ↦ cc | inr e ↦ cc ]

-- A station that can be adjusted, all of whose residuals keep the limit, has no fault of its own.
pub no_adjust_fault : (station : StationValue) (residual : ℕ) (fault : AdjustFault)
    → IsAdjustable station → HasResidualsWithin station residual → IsOfStation fault
    → IsAdjustFault station residual fault → ⊥
no_adjust_fault station residual fault has held own h =
    never_held station has.adjustment residual fault has.rules has.tied has.exact has.limited held
    own h

-- No fault of the field file comes of the table.
no_file_fault : (form : TableForm) (its : SurveyedStation) (residual : ℕ) (within : Option ℕ)
    (fault : Fault) (input : Input)
    → ByInput form its.station residual within input (Err (File fault)) → ⊥
no_file_fault form its residual within fault (Ended bytes) h = h
no_file_fault form its residual within fault (BrokeOff bytes) h =
    elim h [ inl e ↦ cc | inr e ↦ cc ]
no_file_fault form its residual within fault RanPast h = elim h [ inl e ↦ cc | inr e ↦ cc ]

module _ (form : TableForm) (limits : ResultLimits) (lines : FileAnswers) (stated : Told)
    (name : List ℕ) (within : Option ℕ) where
  -- A table that agrees is compared.
  pub compared_of : (a : Agreement) (h : Agrees form limits lines stated name within a)
      → IsComparedWith form h.its.station h.bytes a.how_far.apart
  compared_of a h = record {
    directions = h.directions;
    states = h.states;
    are_apart = record {
      adjustable = h.adjustable;
      from_each = λ c turns least. record {
        brought = h.brought c turns least;
        no_nearer = λ n fewer. h.no_nearer n fewer c turns least;
      };
    };
  }

  -- What is answered, where the station was found.
  pub compares_by_table : (its : SurveyedStation) (r : Result Agreement CompareFault)
      → IsStationOfFile limits.faces lines name its
      → ByInput form its.station limits.residual within (input_within LONGEST_TABLE stated) r
      → Compares form limits lines stated name within r
  compares_by_table its (Ok a) station h =
      let (bytes, whole, is) =
      ended_by form its.station limits.residual within a (input_within LONGEST_TABLE stated) h in
      record {
        its = its;
        station = station;
        bytes = bytes;
        whole = whole;
        directions = is.how_far.compared.directions;
        states = is.how_far.compared.states;
        adjustable = is.how_far.compared.are_apart.adjustable;
        held = is.how_far.held;
        brought = λ c turns least. (is.how_far.compared.are_apart.from_each c turns least).brought;
        no_nearer = λ n fewer c turns least.
            (is.how_far.compared.are_apart.from_each c turns least).no_nearer n fewer;
        agrees = is.agrees;
        greatest = is.greatest;
        limit = is.how_far.limit;
        named = is.named;
        counted_sets = is.counted_sets;
        counted = is.counted;
      }
  compares_by_table its (Err (File fault)) station h =
      absurd (no_file_fault form its limits.residual within fault
      (input_within LONGEST_TABLE stated) h)
  compares_by_table its (Err Memory) station h = tt
  compares_by_table its (Err fault) station h =
      record { its = its; station = station; by_input = h }

  -- What is answered of a fault of the field file.
  pub compares_by_file : (fault : Fault) → IsOfFile fault → Surveys limits.faces lines (Err fault)
      → Compares form limits lines stated name within (Err (of_file fault))
  compares_by_file file.NoStation o h = absurd o
  compares_by_file file.Memory o h = tt
  compares_by_file fault o h = h

-- A fault of the field file leaves the table's reader as it was, and its own as it says.
pub left_alone : (A : Type 0) (fault : Fault) (table : ReaderChange) → IsUnasked table
    → Leaves {A = A} table_left (Err (of_file fault)) table
left_alone A file.Memory table h = h.unfailed
left_alone A fault table h = h

left_with : (fault : Fault) (gsi : ReaderChange) → IsLeftAs (file_left fault) gsi
    → IsLeftAs (field_file_left (of_file fault)) gsi
left_with file.Memory gsi h = h
left_with fault gsi h = h

pub left_by_file : {A B : Type 0} (s : Result A Fault) (fault : Fault) (r : Result B CompareFault)
    (gsi : ReaderChange) → s ≡ Err fault → r ≡ Err (of_file fault) → Leaves file_left s gsi
    → Leaves field_file_left r gsi
left_by_file s fault r gsi e f h = rw f (left_with fault gsi (rw e at h))
