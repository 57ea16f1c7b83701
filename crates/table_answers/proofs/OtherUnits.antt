-- Whether a table agrees in a unit, by what was read of it.
use Rattle.std.proofs.Common.{◌≡◌, ◌≤◌, ◌↔◌, ℕ, ℤ, Bool, true, false, IsTrue, List, None, inl, inr}
use Rattle.std.proofs.Common.{Option, Result, Ok, Err, IfOk, subst, sym}
use Rattle.adjust_kernel.specs.Stations.{StationValue}
use Rattle.direction_table.proofs.LawLemmas.{never_both, one_table}
use Rattle.direction_table.specs.Tables.{IsTableFaultOrMemory}
use Rattle.direction_table.specs.declared.fault.TableFault.{TableFault}
use Rattle.direction_table.specs.declared.fault.TableFault.TheVariants.{Memory}
use Rattle.direction_table.specs.declared.form.TableForm.{TableForm}
use Rattle.direction_table.specs.declared.unit.AngleUnit.{AngleUnit}
use Rattle.direction_table.specs.declared.unit.AngleUnit.TheVariants.{Gon, Degrees, PackedDegrees}
use Rattle.directions_apart.specs.Apart.{stated_by}
use Rattle.least_directions.proofs.LawLemmas.{one_distance}
use Rattle.least_directions.specs.LeastDirections.{AreApart}
use Rattle.station_compare.specs.LimitInForce.{limit_in_force, off_in}
use Rattle.table_answers.specs.NearTables.{IsNear, IsReadAs}
use Rattle.table_answers.specs.OtherUnits.{Agrees, AgreesIn, IsFirstUnit, IsOtherUnit}

-- What is so exactly where a test is true is not so where it is false.
pub not_so : {P : Type 0} (b : Bool) → IsTrue b ↔ P → b ≡ false → ¬ P
not_so true is fails p = cc
not_so false is fails p = let holds : IsTrue false = is.1 p in cc

module _ (form : TableForm) (station : StationValue) (bytes : List ℕ) where
  -- A table agrees exactly where what was read of it is near.
  pub near_agrees : (directions : List ℤ) (off limit : ℕ) (near : Bool)
      → IsReadAs form station bytes directions off limit
      → IsNear station directions off limit near → IsTrue near ↔ Agrees form station bytes
  near_agrees directions off limit near read is = (
    λ h. (
      is.0,
      record {
        directions = directions;
        states = read.states;
        are_apart = subst (λ o. AreApart station (stated_by directions) o is.0) read.off_is is.1;
      },
      subst (λ l. is.0 ≤ l) read.limit_is (is.2.0 h),
    ),
    λ agrees.
        let (other, compared, within) = agrees in
        let same = one_table form station.targets bytes compared.directions directions
        compared.states read.states in
        let apart : AreApart station (stated_by directions) off other =
        subst (λ o. AreApart station (stated_by directions) o other) (sym read.off_is)
        (subst (λ ds. AreApart station (stated_by ds) (off_in form station.targets bytes) other)
        same compared.are_apart) in
        let one : other ≡ is.0 =
        one_distance station (stated_by directions) off other is.0 apart is.1 in
        is.2.1 (subst (λ l. is.0 ≤ l) (sym read.limit_is)
        (subst (λ n. n ≤ limit_in_force form None station.targets bytes) one within)),
  )

  -- One with a fault agrees never.
  pub faulty_disagrees : (fault : TableFault)
      → IsTableFaultOrMemory form station.targets bytes fault → ¬ (fault ≡ Memory)
      → ¬ Agrees form station bytes
  faulty_disagrees fault (inl found) known (apart, compared, within) =
      never_both form station.targets bytes compared.directions fault compared.states found
  faulty_disagrees fault (inr memory) known agrees = known memory

  -- One that agrees in none of the three units agrees in none.
  pub in_none : ¬ AgreesIn form station bytes Gon → ¬ AgreesIn form station bytes Degrees
      → ¬ AgreesIn form station bytes PackedDegrees
      → (unit : AngleUnit) → ¬ AgreesIn form station bytes unit
  in_none gon degrees packed Gon = gon
  in_none gon degrees packed Degrees = degrees
  in_none gon degrees packed PackedDegrees = packed

  -- The first unit of a table that is apart is the one that is named.
  pub by_first : {E : Type 0} (r : Result (Option AngleUnit) E) → ¬ Agrees form station bytes
      → IfOk r (IsFirstUnit form station bytes) → IfOk r (IsOtherUnit form station bytes)
  by_first (Ok unit) apart first = inr (apart, first)
  by_first (Err e) apart first = first
