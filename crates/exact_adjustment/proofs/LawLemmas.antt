-- The lemmas of the laws, by the names of the laws: what proofs of other crates cite.
use Rattle.std.proofs.Common.{◌≡◌, ℕ, ap, arith, refl}
use Rattle.adjust_kernel.specs.Stations.{IsStation, StationValue}
use Rattle.adjust_kernel.specs.declared.bounds.TheConstants.{LARGEST_RESIDUAL_LIMIT}
use Rattle.exact_adjustment.specs.Adjustments.{AdjustmentValue, choice_by}
use Rattle.exact_adjustment.specs.Exact.{IsExact, KeepsLimit}
use Rattle.exact_adjustment.specs.Faults.{IsAdjustFault, IsOfStation}
use Rattle.exact_adjustment.specs.LeastOf.{AreTied, HasResidualsWithin}
use Rattle.exact_adjustment.specs.declared.fault.AdjustFault.{AdjustFault}
use Rattle.exact_adjustment.specs.declared.fault.AdjustFault.TheVariants.{NotConnected, Residual}
use Rattle.exact_adjustment.specs.declared.fault.AdjustFault.TheVariants.{NotFound}
use Rattle.exact_adjustment.proofs.HeldLaws.{kept}
use Rattle.exact_adjustment.proofs.OneLaws.{one_greatest}

-- A station has one fault of its own at most.
pub one_fault : (station : StationValue) (limit : ℕ) (fault other : AdjustFault)
    → IsOfStation fault → IsOfStation other
    → IsAdjustFault station limit fault → IsAdjustFault station limit other → fault ≡ other
one_fault station limit NotConnected NotConnected own also stands too = refl
one_fault station limit NotConnected (Residual m) own also stands too = absurd (stands too.0)
one_fault station limit NotConnected NotFound own also stands too = absurd also
one_fault station limit (Residual n) NotConnected own also stands too = absurd (too stands.0)
one_fault station limit (Residual n) (Residual m) own also stands too =
    let (place, at, f) = stands.2 in
    let (other, too_at, g) = too.2 in
    let e = one_greatest station f.rules stands.0 limit limit place other
    f.adjustment g.adjustment f.exact g.exact f.nearest g.nearest f.greatest
    g.greatest in
    ap Residual (omega (arith, at, too_at, e))
one_fault station limit (Residual n) NotFound own also stands too = absurd also
one_fault station limit NotFound other own also stands too = absurd own

-- A station that is adjusted within the limit has none.
pub never_both : (station : StationValue) (a : AdjustmentValue) (limit : ℕ) (fault : AdjustFault)
    → AreTied station → IsExact station a → KeepsLimit station a limit
    → IsOfStation fault → IsAdjustFault station limit fault → ⊥
never_both station a limit NotConnected tied exact limited own stands = stands tied
never_both station a limit (Residual n) tied exact limited own stands =
    stands.1 (choice_by a) a.turns exact.each exact.rules.positive exact.sums limited
never_both station a limit NotFound tied exact limited own stands = own

-- A station all of whose least choices keep the limit has none.
pub never_held : (station : StationValue) (a : AdjustmentValue) (limit : ℕ) (fault : AdjustFault)
    → IsStation station → AreTied station → IsExact station a
    → KeepsLimit station a LARGEST_RESIDUAL_LIMIT → HasResidualsWithin station limit
    → IsOfStation fault → IsAdjustFault station limit fault → ⊥
never_held station a limit fault is_station tied exact limited held own =
    never_both station a limit fault tied exact
    (kept station a is_station tied exact limited limit held) own
