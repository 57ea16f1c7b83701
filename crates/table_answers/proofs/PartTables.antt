-- From what is read of a table that may lack targets to what is said and refused of it.
use Rattle.std.proofs.Common.{◌≡◌, ℕ, ℤ, List, Option, Some, None, map, inl, inr}
use Rattle.std.proofs.Common.{[], ◌∷◌, ap, refl, subst, sym, true, ◌∙◌}
use Rattle.adjust_kernel.specs.Stations.{StationValue}
use Rattle.direction_table.proofs.StatedDirections.{not-missing}
use Rattle.direction_table.specs.Tables.{IsFirstMissing, IsMissingOrMemory, IsPartFaultOrMemory}
use Rattle.direction_table.specs.Tables.{IsPartText}
use Rattle.direction_table.specs.declared.fault.TableFault.{TableFault}
use Rattle.direction_table.specs.declared.fault.TableFault.TheVariants as table
use Rattle.direction_table.specs.declared.form.TableForm.{TableForm}
use Rattle.direction_table.specs.declared.reading.PartTable.{PartTable}
use Rattle.direction_table.specs.declared.reading.StatedTable.{StatedTable}
use Rattle.exact_adjustment.specs.Faults.{IsAdjustError}
use Rattle.exact_adjustment.specs.declared.fault.AdjustError.{AdjustError}
use Rattle.exact_adjustment.specs.declared.fault.AdjustError.TheVariants as adjust
use Rattle.station_compare.specs.Faults.{of_adjust, of_table}
use Rattle.station_compare.specs.LimitInForce.{limit_in_force, off_in}
use Rattle.std.specs.List.{list_all}
use Rattle.std.specs.Option.{is_some}
use Rattle.station_differences.specs.StatedTargets.{IsEnough, is_enough}
use Rattle.table_answers.specs.OtherUnits.{Agrees}
use Rattle.table_answers.specs.PartTables.{IsTooFewOrMemory, IsWholeOf, ReadsAs}
use Rattle.table_answers.specs.Refusing.{HasNoDifferences}

-- Where a target is missing, not all are stated.
pub not_all : (stated : List (Option ℤ)) (number : ℕ) → IsFirstMissing stated number
    → (directions : List ℤ) → ¬ (stated ≡ map Some directions)
not_all stated number (place, counted, first) directions is =
    let missing = rw is at first in
    not-missing directions place missing.inside missing.here

pub lacks_some : (stated : List (Option ℤ)) (number : ℕ)
    → IsMissingOrMemory stated (table.Missing number)
    → (directions : List ℤ) → ¬ (stated ≡ map Some directions)
lacks_some stated number (inl (n, is, first)) directions = not_all stated n first directions
lacks_some stated number (inr memory) directions = λ is. cc memory

module _ (form : TableForm) (station : StationValue) (residual : ℕ) (bytes : List ℕ) where
  -- A fault of the bytes, but that a target is missing, is refused,
  pub part_refused : (fault : TableFault)
      → IsPartFaultOrMemory form station.targets bytes fault
      → HasNoDifferences form station residual bytes (of_table fault)
  part_refused table.TooLong (inl found, other) = found
  part_refused (table.Columns first second) (inl found, other) = found
  part_refused (table.Row number kind) (inl found, other) = found
  part_refused (table.Missing number) (found, other) = absurd (other number refl)
  part_refused table.Memory (found, other) = tt
  part_refused fault (inr memory, other) =
      subst (λ f. HasNoDifferences form station residual bytes (of_table f)) (sym memory) tt

  -- and so is that one is, where too few are stated.
  pub few_refused : (stated : List (Option ℤ)) (fault : TableFault)
      → IsPartText form station.targets bytes stated → IsTooFewOrMemory stated fault
      → HasNoDifferences form station residual bytes (of_table fault)
  few_refused stated fault text (inl (number, is, first, few)) =
      subst (λ f. HasNoDifferences form station residual bytes (of_table f)) (sym is) (
        (
          text.short,
          text.one_way,
          text.faultless,
          subst (λ s. IsFirstMissing s number) (sym text.stated) first,
        ),
        ap is_enough text.stated ∙ few,
      )
  few_refused stated fault text (inr memory) =
      subst (λ f. HasNoDifferences form station residual bytes (of_table f)) (sym memory) tt

-- Where enough are stated, the fault of the adjustment is refused.
pub unadjusted : (form : TableForm) (station : StationValue) (residual : ℕ) (bytes : List ℕ)
    (stated : List (Option ℤ)) → IsPartText form station.targets bytes stated → IsEnough stated
    → (error : AdjustError) → IsAdjustError station residual error
    → HasNoDifferences form station residual bytes (of_adjust error)
unadjusted form station residual bytes stated text enough (adjust.Fault fault) stands = record {
  stated = stated;
  states = text;
  enough = enough;
  fault_stands = stands;
}
unadjusted form station residual bytes stated text enough adjust.Memory stands = tt

-- A table that lacks targets doesn't agree.
pub disagrees : (form : TableForm) (station : StationValue) (bytes : List ℕ)
    (stated : List (Option ℤ)) → IsPartText form station.targets bytes stated
    → ((directions : List ℤ) → ¬ (stated ≡ map Some directions))
    → ¬ Agrees form station bytes
disagrees form station bytes stated text lacks (apart, compared, within) =
    lacks compared.directions (sym text.stated ∙ compared.states.stated)

all_some : (directions : List ℤ) → list_all is_some (map Some directions) ≡ true
all_some [] = refl
all_some (d ∷ directions) = all_some directions

all_enough : (directions : List ℤ) → IsEnough (map Some directions)
all_enough directions = let all = all_some directions in cc

-- What is read of a table that states enough, and lacks targets or not: enough is stated,
pub whole_enough : (part : PartTable) (whole : Option StatedTable) → IsWholeOf part whole
    → IsEnough part.directions.items
whole_enough part (Some whole) h = subst IsEnough (sym h.0) (all_enough whole.directions.items)
whole_enough part None h = h.0

-- and the bytes are read as it.
pub whole_reads : (form : TableForm) (station : StationValue) (bytes : List ℕ) (part : PartTable)
    (whole : Option StatedTable) → IsPartText form station.targets bytes part.directions.items
    → part.most_off ≡ off_in form station.targets bytes
    → part.usual_within ≡ limit_in_force form None station.targets bytes
    → IsWholeOf part whole → ReadsAs form station bytes whole
whole_reads form station bytes part (Some whole) text off limit h = record {
  states = subst (IsPartText form station.targets bytes) h.0 text;
  off_is = h.2 ∙ off;
  limit_is = h.1 ∙ limit;
}
whole_reads form station bytes part None text off limit h =
    disagrees form station bytes part.directions.items text h.1
