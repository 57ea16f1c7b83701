-- The greatest residual of a station: that there is one, and one place of it.
use Rattle.std.proofs.Common.{◌≡◌, ℕ, ◌<◌, ◌≤◌, List, length, map, Any, arith, ap, sym, ◌∙◌}
use Rattle.std.proofs.lemmas.List.{length-map}
use native.Mathlib.Decide.{dec_le}
use Rattle.adjust_kernel.specs.Matching.{observed, key_of_obs}
use Rattle.adjust_kernel.specs.Stations.{StationValue, IsStation}
use Rattle.adjust_kernel.specs.declared.obs.Obs.{Obs}
use Rattle.station_results.specs.Greatest.{IsGreatestBefore}
use Rattle.station_results.specs.Residuals.{key_of}
use Rattle.station_results.specs.declared.adjusted.AdjustedObs.{AdjustedObs}

-- The first of the greatest is at one place.
pub one_greatest : (rows : List AdjustedObs) (end a b : ℕ) → IsGreatestBefore rows end a
    → IsGreatestBefore rows end b → a ≡ b
one_greatest rows end a b p q = by (dec_le a b)
  where
    not_before : (x y : ℕ) → IsGreatestBefore rows end x → IsGreatestBefore rows end y → x < y → ⊥
    not_before x y r s h = let less = s.first x h in let more = r.most y s.inside in
        omega (arith, less, more)

    again : Dec (b ≤ a) → a ≤ b → a ≡ b
    again (yes l) h = omega (arith, l, h)
    again (no m) h = absurd (not_before a b p q (omega (arith, m)))

    by : Dec (a ≤ b) → a ≡ b
    by (yes h) = again (dec_le b a) h
    by (no m) = absurd (not_before b a q p (omega (arith, m)))

-- There are as many rows as observations.
pub as_many_rows : (station : StationValue) (rows : List AdjustedObs)
    → map key_of rows ≡ observed station → length rows ≡ length station.obs
as_many_rows station rows h =
    sym (length-map rows key_of) ∙ ap length h
    ∙ length-map station.obs (key_of_obs station.sets station.targets)

some_of : (P : Obs → Type 0) (obs : List Obs) → Any P obs → 1 ≤ length obs
some_of P obs h = let inside = h.2 in omega (arith, inside)

-- A station has an observation.
pub some_observation : (station : StationValue) → IsStation station → 1 ≤ length station.obs
some_observation station s = some_of _ station.obs (s.obs.each_target 0 s.targets.some)

-- So there is a row.
pub some_row : (station : StationValue) (rows : List AdjustedObs) → IsStation station
    → map key_of rows ≡ observed station → 1 ≤ length rows
some_row station rows s h =
    omega (arith, as_many_rows station rows h, some_observation station s)
