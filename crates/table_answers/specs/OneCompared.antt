-- A table is compared with a station in one way.
use Rattle.std.proofs.Common.{◌≡◌, ℕ, List, Option, Ok, Err, ap}
use Rattle.adjust_kernel.specs.Stations.{StationValue}
use Rattle.direction_table.specs.declared.form.TableForm.{TableForm}
use Rattle.station_compare.proofs.OneAnswer.{one_by_table}
use Rattle.station_compare.specs.Comparing.{ByTable}
use Rattle.station_compare.specs.declared.fault.CompareFault.TheVariants as fault
use Rattle.table_answers.specs.Comparisons.{verdict}
use Rattle.table_answers.specs.Refusing.{IsComparable}
use Rattle.table_answers.specs.declared.compared.Compared.{Compared}
use Rattle.table_answers.specs.declared.compared.Compared.TheVariants.{Agrees, Apart}

module _ (form : TableForm) (station : StationValue) (residual : ℕ) (bytes : List ℕ)
    (within : Option ℕ) where
  pub one_compared : (a b : Compared) → ByTable form station residual within bytes (verdict a)
      → ByTable form station residual within bytes (verdict b) → a ≡ b
  one_compared (Agrees a) (Agrees b) p q =
      let e : Ok a ≡ Ok b =
      one_by_table form station residual bytes within (Ok a) (Ok b) tt tt p q in
      let same : a ≡ b = cc in
      ap Agrees same
  one_compared (Agrees a) (Apart h) p q =
      let e : Ok a ≡ Err (fault.Apart h) =
      one_by_table form station residual bytes within (Ok a) (Err (fault.Apart h)) tt tt p q in
      cc
  one_compared (Apart h) (Agrees a) p q =
      let e : Err (fault.Apart h) ≡ Ok a =
      one_by_table form station residual bytes within (Err (fault.Apart h)) (Ok a) tt tt p q in
      cc
  one_compared (Apart h) (Apart k) p q =
      let e : Err (fault.Apart h) ≡ Err (fault.Apart k) =
      one_by_table form station residual bytes within (Err (fault.Apart h)) (Err (fault.Apart k)) tt
      tt p q in
      let same : h ≡ k = cc in
      ap Apart same

  -- What is compared can be.
  pub comparable : (a : Compared) → ByTable form station residual within bytes (verdict a)
      → IsComparable form station bytes
  comparable (Agrees a) p = record {
    directions = p.how_far.compared.directions;
    states = p.how_far.compared.states;
    adjustable = p.how_far.compared.are_apart.adjustable;
  }
  comparable (Apart h) p = record {
    directions = p.1.compared.directions;
    states = p.1.compared.states;
    adjustable = p.1.compared.are_apart.adjustable;
  }
