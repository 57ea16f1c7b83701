-- An observation of a station at a place, and its full turns by an adjustment.
use Rattle.std.proofs.Common.{◌≡◌, ◌*◌, ◌<◌, ℕ, ℤ, List, length, get_or, pos, arith, subst}
use Rattle.std.proofs.Common.{FitsSigned, to_z, of_z, w8}
use Rattle.std.proofs.lemmas.Int.{ints, to_z-of_z}
use Rattle.adjust_kernel.specs.Pairs.{turned_by}
use Rattle.adjust_kernel.specs.Residuals.{residual}
use Rattle.adjust_kernel.specs.Stations.{StationValue}
use Rattle.adjust_kernel.specs.TurnedObservations.{TurnedObservation}
use Rattle.adjust_kernel.specs.Within.{IsWithin}
use Rattle.adjust_kernel.specs.declared.obs.Obs.{Obs}
use Rattle.exact_adjustment.proofs.SideLaws.{get_or-turned, length-turned}
use Rattle.exact_adjustment.specs.Adjustments.{AdjustmentValue, choice_by}
use Rattle.exact_adjustment.specs.Exact.{IsExact, KeepsLimit, observed_by}

-- What is read at a place that no observation has.
abbrev pub any_obs : Obs
any_obs = record { set = 0; target = 0; value = 0 }

-- The same with full turns.
abbrev pub any_turned : TurnedObservation
any_turned = record { set = 0; target = 0; value = 0; turn = pos 0 }

module _ (station : StationValue) (a : AdjustmentValue) (exact : IsExact station a) (place : ℕ)
    (inside : place < length station.obs) where
  -- It is inside with its full turns too,
  pub there : place < length (observed_by station a)
  there = omega (arith, inside, length-turned station.obs a.turns exact.each)

  -- these fit into a byte,
  pub turn_kept : to_z w8 (of_z w8 (get_or a.turns place (pos 0))) ≡ get_or a.turns place (pos 0)
  turn_kept =
      let turn = exact.rules.turns place (pos 0) (omega (arith, inside, exact.each)) in
      let low = turn.low in
      let high = turn.high in
      let fits : FitsSigned w8 (get_or a.turns place (pos 0)) = omega (arith, ints, low, high) in
      to_z-of_z w8 (get_or a.turns place (pos 0)) fits

  -- it is that of the station, turned,
  pub turned_there : get_or (observed_by station a) place any_turned
      ≡ turned_by (get_or station.obs place any_obs) (get_or a.turns place (pos 0))
  turned_there =
      get_or-turned station.obs a.turns place any_obs (pos 0) any_turned exact.each inside

  -- and its residual is within a limit that all keep: so it is as a loop reads the observation.
  pub limited_there : (limit : ℕ) → KeepsLimit station a limit → (obs : List Obs) (turns : List ℤ)
      → obs ≡ station.obs → turns ≡ a.turns
      → IsWithin (pos (limit * a.denominator)) (residual (choice_by a)
      (turned_by (get_or obs place any_obs) (to_z w8 (of_z w8 (get_or turns place (pos 0))))))
  limited_there limit limited obs turns is_obs is_turns =
      rw (is_obs, is_turns, turn_kept)
      (subst (λ r. IsWithin (pos (limit * a.denominator)) (residual (choice_by a) r)) turned_there
      (limited place any_turned there))
