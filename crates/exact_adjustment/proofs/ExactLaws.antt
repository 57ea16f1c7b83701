-- An exact adjustment is least, and every other least choice is it but for a rotation and turns.
use Rattle.std.proofs.Common.{◌≡◌, ℕ, suc, ◌*◌, ◌≤◌, List, [], ◌∷◌, map, length, All, ℤ, pos, arith}
use Rattle.std.proofs.Common.{ap, refl, sym, ◌∙◌}
use Rattle.std.proofs.lemmas.List.{length-map}
use Rattle.std.proofs.lemmas.List.Elements.{All-cons}
use Rattle.std.proofs.Math.IntN.{◌*ℤ◌}
use Rattle.std.proofs.lemmas.Int.{ints}
use Rattle.adjust_kernel.specs.declared.bounds.TheConstants.{MOST_ROWS, LARGEST_RESIDUAL_LIMIT}
use Rattle.adjust_kernel.specs.declared.obs.Obs.{Obs}
use Rattle.adjust_kernel.specs.Least.{IsSameSum, sum_beside}
use Rattle.adjust_kernel.specs.Pairs.{turned_by}
use Rattle.adjust_kernel.specs.Promises.{IsAdjusted, IsAdjustedOverTurns}
use Rattle.adjust_kernel.specs.Residuals.{Choice, sum_of_squares}
use Rattle.adjust_kernel.specs.Stations.{StationValue, IsStation, IsObs}
use Rattle.adjust_kernel.specs.TurnedObservations.{TurnedObservation}
use Rattle.adjust_kernel.specs.Turns.{AreTurnedWhole, with_turns}
use Rattle.adjust_kernel.proofs.ObservationLaws.{IsPlaced}
use Rattle.adjust_kernel.proofs.PromiseLaws.{IsAccepted, accepted_is_adjusted}
use Rattle.adjust_kernel.proofs.PromiseLaws.{limited_is_adjusted_over_turns}
use Rattle.adjust_kernel.proofs.TurnLaws.{taken, taken_squares}
use Rattle.exact_adjustment.specs.LeastOf.{AreTied, IsLeastOf, observed_with}
use Rattle.exact_adjustment.specs.Adjustments.{AdjustmentValue, choice_by}
use Rattle.exact_adjustment.specs.Exact.{IsExact, KeepsLimit, IsSameButTurned, observed_by}
use Rattle.exact_adjustment.proofs.SideLaws.{get_or-pos, length-turned}
use Rattle.adjust_kernel.proofs.ObsLaws.{few_obs}

-- Other turns take the place of earlier ones.
pub turns_again : (rs : List TurnedObservation) (ks ls : List ℤ) → length ks ≡ length rs
    → with_turns (with_turns rs ks) ls ≡ with_turns rs ls
turns_again [] ks ls h = refl
turns_again (r ∷ rs) [] ls h = absurd (omega (arith, h))
turns_again (r ∷ rs) (k ∷ ks) [] h = refl
turns_again (r ∷ rs) (k ∷ ks) (l ∷ ls) h =
    ap (λ xs. record r { turn = l } ∷ xs) (turns_again rs ks ls (omega (arith, h)))

pub placed : (sets targets : ℕ) (obs : List Obs) (ks : List ℤ) → All (IsObs sets targets) obs
    → All (IsPlaced sets targets) (with_turns (map (λ o. turned_by o (pos 0)) obs) ks)
placed sets targets [] ks h = λ k d inside. absurd (omega arith)
placed sets targets (o ∷ obs) [] h = λ k d inside. absurd (omega arith)
placed sets targets (o ∷ obs) (k ∷ ks) h =
    let first = h 0 o (omega arith) in
    All-cons (IsPlaced sets targets) _ (with_turns (map (λ o. turned_by o (pos 0)) obs) ks)
    (record { set_in = first.set; target_in = first.target })
    (placed sets targets obs ks (λ k d inside. h (suc k) d (omega (arith, inside))))

module _ (station : StationValue) (a : AdjustmentValue) (is_station : IsStation station)
    (tied : AreTied station) (exact : IsExact station a) where
  pub long : length a.turns ≡ length (map (λ o. turned_by o (pos 0)) station.obs)
  long = exact.each ∙ sym (length-map station.obs (λ o. turned_by o (pos 0)))

  pub count : length (observed_by station a) ≡ length station.obs
  count = length-turned station.obs a.turns exact.each

  pub again : (turns : List ℤ)
      → with_turns (observed_by station a) turns ≡ observed_with station turns
  again turns = turns_again (map (λ o. turned_by o (pos 0)) station.obs) a.turns turns long

  pub few : length station.obs ≤ MOST_ROWS
  few = few_obs (length station.sets) (length station.targets) station.obs is_station.obs
      is_station.sets.few is_station.targets.few

  accepted : IsAccepted (length station.sets) (length station.targets) (choice_by a)
      (observed_by station a)
  accepted = record {
    denominator = exact.rules.positive;
    some = is_station.targets.some;
    placed = placed (length station.sets) (length station.targets) station.obs a.turns
        is_station.obs.within;
    datum = get_or-pos a.directions 0 ∙ ap pos exact.rules.datum;
    target_sums = exact.sums.target_sums;
    set_sums = exact.sums.set_sums;
    connected = tied a.turns exact.each;
  }

  pub adjusted : IsAdjusted (length station.sets) (length station.targets) (choice_by a)
      (observed_by station a)
  adjusted = accepted_is_adjusted (length station.sets) (length station.targets) (choice_by a)
      (observed_by station a) accepted

  module _ (limited : KeepsLimit station a LARGEST_RESIDUAL_LIMIT) where
    pub over_turns : IsAdjustedOverTurns (choice_by a) (observed_by station a)
    over_turns = limited_is_adjusted_over_turns (length station.sets) (length station.targets)
        (choice_by a) (observed_by station a) LARGEST_RESIDUAL_LIMIT (record {
          sets_in = is_station.sets.few;
          targets_in = is_station.targets.few;
          observations_in = omega (arith, count, few);
          limit_in = omega arith;
        }) accepted limited

    pub is_least : IsLeastOf station (choice_by a) a.turns
    is_least = record {
      each = exact.each;
      positive = exact.rules.positive;
      least = λ other others h positive.
          rw (again others) at (over_turns.least other others (h ∙ sym count) positive);
    }

    module _ (c : Choice) (turns : List ℤ) (least : IsLeastOf station c turns) where
      same_sum : IsSameSum (choice_by a) (observed_by station a) c
          (with_turns (observed_by station a) turns)
      same_sum =
          let low = over_turns.least c turns (least.each ∙ sym count) least.positive in
          let high = rw (← again turns)
          at (least.least (choice_by a) a.turns exact.each exact.rules.positive) in
          omega (arith, ints, low, high)

      turned : AreTurnedWhole (observed_by station a) turns
      turned = over_turns.only c turns (least.each ∙ sym count) least.positive same_sum

      pub same_but_turned : IsSameButTurned station a c turns
      same_but_turned =
          let other = taken c turned.of_target turned.of_set in
          let e : sum_beside (choice_by a) other (observed_by station a)
          ≡ sum_beside (choice_by a) c (with_turns (observed_by station a) turns) =
          ap (λ z. pos (a.denominator * a.denominator) *ℤ z)
          (taken_squares c turned.of_target turned.of_set (observed_by station a)
          ∙ ap (λ (ks : List ℤ). sum_of_squares c (with_turns (observed_by station a) ks))
          (sym turned.turns_are)) in
          let d = adjusted.unique other least.positive (same_sum ∙ sym e) in
          record {
            turned = turned;
            rotation = d.rotation;
            directions = d.directions;
            orientations = d.orientations;
          }
