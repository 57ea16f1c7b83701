-- What is said of the observations by an exact adjustment is said by every least choice.
use Rattle.std.proofs.Common.{◌≡◌, ℕ, ◌*◌, ◌≤◌, List, [], ◌∷◌, map, length, ℤ, pos, ◌+ℤ◌}
use Rattle.std.proofs.Common.{arith, ap, refl, sym, subst, ◌∙◌}
use Rattle.std.proofs.Math.IntN.{◌*ℤ◌, ◌-ℤ◌}
use Rattle.std.specs.Int.RustNames.{unsigned_abs}
use Rattle.std.specs.List.{AllZip}
use Rattle.adjust_kernel.specs.Matching.{Key, observed}
use Rattle.adjust_kernel.specs.Pairs.{turned_by}
use Rattle.adjust_kernel.specs.Residuals.{Choice}
use Rattle.adjust_kernel.specs.Stations.{StationValue, IsStation}
use Rattle.adjust_kernel.specs.TurnedObservations.{TurnedObservation}
use Rattle.adjust_kernel.specs.Turns.{with_turns}
use Rattle.adjust_kernel.specs.declared.bounds.TheConstants.{LARGEST_RESIDUAL_LIMIT}
use Rattle.adjust_kernel.proofs.ObservationLaws.{IsPlaced}
use Rattle.directions_apart.proofs.RoundingLaws.{one_rounded}
use Rattle.directions_apart.specs.Arcs.{IsWayRound}
use Rattle.adjust_kernel.specs.declared.units.TheConstants.{CIRCLE}
use Rattle.exact_adjustment.proofs.ExactLaws.{long, placed, same_but_turned, turns_again}
use Rattle.exact_adjustment.specs.Adjustments.{AdjustmentValue, choice_by}
use Rattle.exact_adjustment.specs.Exact.{IsExact, IsSameButTurned, KeepsLimit, observed_by}
use Rattle.exact_adjustment.specs.LeastOf.{AreTied, IsLeastOf, observed_with}
use Rattle.least_directions.proofs.LeastLaws.{least_of}
use Rattle.station_results.specs.Adjusting.{IsRowOf}
use Rattle.station_results.specs.Greatest.{IsGreatest, IsGreatestSize, residual_at}
use Rattle.station_results.specs.Residuals.{AddsUp, AreAdjusted, IsAdjustedObs, key_of, seen_in}
use Rattle.station_results.specs.declared.adjusted.AdjustedObs.{AdjustedObs}
use Rattle.station_results.proofs.GreatestLaws.{one_greatest}
use Rattle.station_results.proofs.ResidualLaws.{adjusted_is, as_residual, one_residual}
use Rattle.station_results.proofs.RowLaws.{all_seconds, turned_each, zip_changed}

module _ (station : StationValue) (s : IsStation station) (a : AdjustmentValue)
    (tied : AreTied station) (exact : IsExact station a)
    (limited : KeepsLimit station a LARGEST_RESIDUAL_LIMIT) where
  module _ (c : Choice) (turns : List ℤ) (least : IsLeastOf station c turns) where
    same : IsSameButTurned station a c turns
    same = same_but_turned station a s tied exact limited c turns least

    -- An observation with the full turns that go with the least choice.
    abbrev with_its : TurnedObservation → TurnedObservation
    with_its o = record o {
      turn = o.turn +ℤ same.turned.of_target o.target -ℤ same.turned.of_set o.set;
    }

    with_all : observed_with station turns ≡ map with_its (observed_by station a)
    with_all =
        sym (turns_again (map (λ o. turned_by o (pos 0)) station.obs) a.turns turns
        (long station a s tied exact))
        ∙ ap (with_turns (observed_by station a)) same.turned.turns_are
        ∙ turned_each (λ o. o.turn +ℤ same.turned.of_target o.target -ℤ same.turned.of_set o.set)
        (observed_by station a)

    by_least : (o : TurnedObservation) (row : AdjustedObs)
        → IsPlaced (length station.sets) (length station.targets) o → IsRowOf (choice_by a) o row
        → IsAdjustedObs c (with_its o) row
    by_least o row at r =
        let residual = as_residual (choice_by a) c o (same.turned.of_target o.target)
        (same.turned.of_set o.set) same.rotation row.residual exact.rules.positive least.positive
        (same.directions o.target at.target_in) (same.orientations o.set at.set_in) r.residual in
        record {
          adjusted = adjusted_is c (with_its o) row.residual row.adjusted residual
              (subst (λ v. IsWayRound CIRCLE (pos 0) (pos (5_000 * v) +ℤ pos 1_000 *ℤ row.residual)
              row.adjusted) r.value r.adds_up);
          residual = residual;
        }

    -- The rows by an adjustment are the rows by a least choice.
    each_least : (rows : List AdjustedObs)
        → AllZip (IsRowOf (choice_by a)) (observed_by station a) rows
        → AllZip (IsAdjustedObs c) (observed_with station turns) rows
    each_least rows h =
        subst (λ os. AllZip (IsAdjustedObs c) os rows) (sym with_all)
        (zip_changed (IsRowOf (choice_by a)) (IsAdjustedObs c)
        (IsPlaced (length station.sets) (length station.targets)) with_its (observed_by station a)
        rows
        (placed (length station.sets) (length station.targets) station.obs a.turns s.obs.within) h
        by_least)

  -- The rows by an exact adjustment are the observations, adjusted by least squares.
  pub are_adjusted : (rows : List AdjustedObs) → map key_of rows ≡ observed station
      → AllZip (IsRowOf (choice_by a)) (observed_by station a) rows → AreAdjusted station rows
  are_adjusted rows same_keys h = record {
    observed = same_keys;
    adjustable =
        record { rules = s; tied = tied; adjustment = a; exact = exact; limited = limited };
    each = λ c turns least. each_least c turns least rows h;
    adds_up = all_seconds (IsRowOf (choice_by a)) AddsUp (observed_by station a) rows h
        (λ o row r. r.adds_up);
  }

-- Rows of the same observations, adjusted by one choice, are one list.
same_rows : (c : Choice) → 1 ≤ c.denominator → (os : List TurnedObservation)
    (xs ys : List AdjustedObs) → AllZip (IsAdjustedObs c) os xs → AllZip (IsAdjustedObs c) os ys
    → map key_of xs ≡ map key_of ys → xs ≡ ys
same_rows c some [] [] [] p q e = refl
same_rows c some [] [] (y ∷ ys) p q e = absurd q
same_rows c some [] (x ∷ xs) ys p q e = absurd p
same_rows c some (o ∷ os) [] ys p q e = absurd p
same_rows c some (o ∷ os) (x ∷ xs) [] p q e = absurd q
same_rows c some (o ∷ os) (x ∷ xs) (y ∷ ys) p q e =
    let first : key_of x ≡ key_of y = cc in
    let rest : map key_of xs ≡ map key_of ys = cc in
    let set : x.set ≡ y.set = ap (λ (k : Key). k.set) first in
    let target : x.target ≡ y.target = ap (λ (k : Key). k.target) first in
    let value : x.value ≡ y.value = ap (λ (k : Key). k.value) first in
    let adjusted : x.adjusted ≡ y.adjusted =
    one_rounded (seen_in c o.set) o.target 1_000 x.adjusted y.adjusted some (omega arith) refl
    p.0.adjusted q.0.adjusted in
    let residual : x.residual ≡ y.residual =
    one_residual c o x.residual y.residual p.0.residual q.0.residual in
    λ i. record {
      set = set i;
      target = target i;
      value = value i;
      adjusted = adjusted i;
      residual = residual i;
    } ∷ same_rows c some os xs ys p.1 q.1 rest i

-- The adjusted observations of a station are one list.
pub one_list : (station : StationValue) (a b : List AdjustedObs) → AreAdjusted station a
    → AreAdjusted station b → a ≡ b
one_list station a b p q =
    let least = least_of station p.adjustable in
    let c = choice_by p.adjustable.adjustment in
    let turns = p.adjustable.adjustment.turns in
    same_rows c least.positive (observed_with station turns) a b (p.each c turns least)
    (q.each c turns least) (p.observed ∙ sym q.observed)

-- And the size of its greatest residual is one.
pub one_size : (station : StationValue) (a b : ℕ) → IsGreatestSize station a
    → IsGreatestSize station b → a ≡ b
one_size station a b p q =
    let rows = one_list station p.rows q.rows p.adjusted q.adjusted in
    let greatest : IsGreatest q.rows p.place =
    subst (λ (xs : List AdjustedObs). IsGreatest xs p.place) rows p.greatest in
    let place : p.place ≡ q.place =
    one_greatest q.rows (length q.rows) p.place q.place greatest q.greatest in
    p.size_is
    ∙ ap (λ (xs : List AdjustedObs). unsigned_abs (residual_at xs p.place)) rows
    ∙ ap (λ n. unsigned_abs (residual_at q.rows n)) place
    ∙ sym q.size_is
