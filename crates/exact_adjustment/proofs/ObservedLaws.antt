-- A station's observations with full turns, one by one and along the steps that carry.
use Rattle.std.proofs.Common.{◌≡◌, ℕ, ◌<◌, List, length, get_or, All, ℤ, pos, arith, sym, ◌∙◌, ap}
use Rattle.std.proofs.Common.{◌*◌, subst}
use Rattle.std.specs.Int.RustNames.{unsigned_abs}
use Rattle.std.proofs.lemmas.List.{get_or-map}
use Rattle.adjust_kernel.specs.Pairs.{turned_by}
use Rattle.adjust_kernel.specs.Residuals.{Choice, residual}
use Rattle.adjust_kernel.specs.Stations.{IsStation, StationValue}
use Rattle.adjust_kernel.specs.TurnedObservations.{TurnedObservation}
use Rattle.adjust_kernel.specs.declared.obs.Obs.{Obs}
use Rattle.adjust_kernel.specs.Within.{IsWithin}
use Rattle.adjust_kernel.proofs.GreatestLaws.{size_within}
use Rattle.exact_adjustment.specs.Adjustments.{AdjustmentValue, choice_by}
use Rattle.exact_adjustment.specs.Exact.{IsGreatestAbove, KeepsLimit, observed_by, size_at}
use Rattle.exact_adjustment.specs.LeastOf.{observed_with}
use Rattle.exact_adjustment.specs.Nearest.{AgreeWhereCarried, Carries, place_of}
use Rattle.exact_adjustment.proofs.SideLaws.{get_or-turned, length-turned}

-- The observation at a place.
abbrev pub obs_at : StationValue → ℕ → Obs
obs_at station n = get_or station.obs n (record { set = 0; target = 0; value = 0 })

-- The observation at a place, with its full turns.
abbrev pub turned_at : StationValue → List ℤ → ℕ → TurnedObservation
turned_at station ks n = turned_by (obs_at station n) (get_or ks n (pos 0))

-- What stands where nothing was observed.
abbrev pub nothing_seen : TurnedObservation
nothing_seen = record { set = 0; target = 0; value = 0; turn = pos 0 }

-- A station has observations, and so each step goes along one.
pub has_obs : (station : StationValue) → IsStation station → 0 < length station.obs
has_obs station is = let first = is.obs.each_target 0 is.targets.some in omega (arith, first.2)

pub place_inside : (station : StationValue) → IsStation station → (step : ℕ)
    → place_of station step < length station.obs
place_inside station is step = omega (arith, has_obs station is)

module _ (station : StationValue) (ks : List ℤ) (each : length ks ≡ length station.obs) where
  pub seen_at : (n : ℕ) (d : TurnedObservation) → n < length station.obs
      → get_or (observed_with station ks) n d ≡ turned_at station ks n
  seen_at n d inside = get_or-turned station.obs ks n _ (pos 0) d each inside

  module _ (P : TurnedObservation → Type 0) where
    -- What holds of all observations with these turns holds of each, and the other way.
    pub of_each : All P (observed_with station ks) → (n : ℕ) → n < length station.obs
        → P (turned_at station ks n)
    of_each all n inside = subst P (seen_at n nothing_seen inside)
        (all n nothing_seen (omega (arith, inside, length-turned station.obs ks each)))

    pub of_all : ((n : ℕ) → n < length station.obs → P (turned_at station ks n))
        → All P (observed_with station ks)
    of_all holds = λ n d inside.
        let l : n < length station.obs =
        omega (arith, inside, length-turned station.obs ks each) in
        subst P (sym (seen_at n d l)) (holds n l)

  pub agrees : IsStation station → (angles : Choice) → AgreeWhereCarried station ks angles
      → (step : ℕ) → Carries station step
      → residual angles (turned_at station ks (place_of station step)) ≡ pos 0
  agrees is angles carried step carries =
      ap (residual angles)
      (sym (seen_at (place_of station step) nothing_seen (place_inside station is step)))
      ∙ carried step carries

-- The size of a residual at a place.
pub size_at_place : (station : StationValue) (a : AdjustmentValue) (n : ℕ)
    → length a.turns ≡ length station.obs → n < length station.obs
    → size_at station a n ≡ unsigned_abs (residual (choice_by a) (turned_at station a.turns n))
size_at_place station a n each inside =
    ap unsigned_abs (get_or-map (residual (choice_by a)) (observed_by station a) n nothing_seen
    (pos 0) (omega (arith, inside, length-turned station.obs a.turns each))
    ∙ ap (residual (choice_by a)) (seen_at station a.turns each n nothing_seen inside))

-- Where some residual is above a limit, it is not kept.
pub above_is_not_kept : (station : StationValue) (a : AdjustmentValue) (limit place : ℕ)
    → length a.turns ≡ length station.obs → IsGreatestAbove station a limit place
    → KeepsLimit station a limit → ⊥
above_is_not_kept station a limit place each g k =
    let w = of_each station a.turns each
    (λ r. IsWithin (pos (limit * a.denominator)) (residual (choice_by a) r)) k place
    g.first.inside in
    let e = size_at_place station a place each g.first.inside in
    omega (arith, g.above, size_within (limit * a.denominator) _ w)
