-- What is said of a table by how far it is apart is what the comparison answers.
use Rattle.std.proofs.Common.{◌≤◌, ◌<◌, ℕ, List, Option, subst, sym}
use Rattle.adjust_kernel.specs.Stations.{StationValue}
use Rattle.direction_table.specs.declared.form.TableForm.{TableForm}
use Rattle.station_compare.specs.Comparing.{ByTable, IsHowFar}
use Rattle.station_compare.specs.declared.how_far.HowFar.{HowFar}
use Rattle.table_answers.specs.Comparisons.{IsComparedBy, verdict}
use Rattle.table_answers.specs.declared.compared.Compared.{Compared}
use Rattle.table_answers.specs.declared.compared.Compared.TheVariants.{Agrees, Apart}

pub by_how_far : (form : TableForm) (station : StationValue) (residual : ℕ) (bytes : List ℕ)
    (within : Option ℕ) (h : HowFar) (compared : Compared) → IsComparedBy station h compared
    → IsHowFar form station residual bytes within h
    → ByTable form station residual within bytes (verdict compared)
by_how_far form station residual bytes within h (Agrees a) by far = record {
  how_far = subst (IsHowFar form station residual bytes within) (sym by.0) far;
  agrees = subst (λ (k : HowFar). k.apart ≤ k.limit) (sym by.0) by.1;
  greatest = by.2;
  named = by.3;
  counted_sets = by.4;
  counted = by.5;
}
by_how_far form station residual bytes within h (Apart k) by far = (
  subst (λ (k : HowFar). k.limit < k.apart) (sym by.0) by.1,
  subst (IsHowFar form station residual bytes within) (sym by.0) far,
)
