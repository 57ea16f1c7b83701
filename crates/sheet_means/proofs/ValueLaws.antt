-- In a complete station the direction of a set and target stands at its place.
use Rattle.std.proofs.Common.{◌≡◌, ◌≢◌, ℕ, suc, zero, ◌+◌, ◌*◌, ◌<◌, Bool, true, false, cond, eqb}
use Rattle.std.proofs.Common.{List, [], ◌∷◌, length, get_or, Option, Some, pos, arith, ap, ◌∙◌}
use Rattle.std.specs.Prelude.{◌&&◌, find}
use Rattle.std.specs.Option.{option_map_or}
use Rattle.std.proofs.lemmas.Bool.{ne_eqb}
use Rattle.std.proofs.lemmas.Bool.Decides.{nat_tests}
use Rattle.adjust_kernel.specs.declared.obs.Obs.{Obs}
use Rattle.adjust_kernel.specs.Stations.{StationValue, IsStation}
use Rattle.sheet_means.specs.Complete.{IsComplete}
use Rattle.sheet_means.specs.Turning.{value_of}
use Rattle.sheet_means.proofs.CompleteLaws.{any_obs, place_below, place-full, at_place}
use Rattle.sheet_means.proofs.CompleteLaws.{full_where_complete}
use native.Mathlib.Decide.{ℕ_discrete}

-- The first that passes is at place i.
find-at : {X : Type 0} (p : X → Bool) (xs : List X) (i : ℕ) (d : X) → i < length xs
    → p (get_or xs i d) ≡ true → ((j : ℕ) → j < i → p (get_or xs j d) ≡ false)
    → find p xs ≡ Some (get_or xs i d)
find-at p [] i d h e before = absurd (omega arith)
find-at p (x ∷ xs) zero d h e before = ap (λ b. cond b (Some x) (find p xs)) e
find-at p (x ∷ xs) (suc i) d h e before = ap (λ b. cond b (Some x) (find p xs))
    (before 0 (omega arith)) ∙ find-at p xs i d (omega arith) e
    (λ j l. before (suc j) (omega arith))

both_pass : (a s b t : ℕ) → a ≡ s → b ≡ t → (eqb a s && eqb b t) ≡ true
both_pass a s b t e f = grind (arith, nat_tests)

-- An observation at another place is of another set or target.
other_place : (a s b t targets : ℕ) → a * targets + b ≢ s * targets + t
    → (eqb a s && eqb b t) ≡ false
other_place a s b t targets n = by (ℕ_discrete a s) (ℕ_discrete b t)
  where
    by : Dec (a ≡ s) → Dec (b ≡ t) → (eqb a s && eqb b t) ≡ false
    by (no f) d = ap (λ c. c && eqb b t) (ne_eqb a s f)
    by (yes e) (no f) = let g : eqb a s ≡ true = grind (arith, nat_tests) in
        (λ i. g i && ne_eqb b t f i)
    by (yes e) (yes f) = absurd (n (λ i. e i * targets + f i))

module _ (station : StationValue) (valid : IsStation station) (complete : IsComplete station) where
  abbrev T : ℕ
  T = length station.targets

  full : length station.obs ≡ length station.sets * T
  full = full_where_complete station valid complete

  -- The place of a set and a target stands inside the observations.
  pub place_inside : (s t : ℕ) → s < length station.sets → t < T → s * T + t < length station.obs
  place_inside s t h k = let e = place_below s t (length station.sets) T h k in let f = full in
      omega arith

  -- The direction of a set and a target is that of the observation at their place.
  pub value_of-at : (s t : ℕ) → s < length station.sets → t < T
      → value_of station.obs s t ≡ pos (get_or station.obs (s * T + t) any_obs).value
  value_of-at s t h k =
      let i : ℕ = s * T + t in
      let p = at_place (length station.sets) T station.obs valid.obs.within valid.obs.ordered full
      s t h k in
      let inside = place_inside s t h k in
      ap (λ (o : Option Obs). pos (option_map_or (λ (o : Obs). o.value) o 0))
      (find-at (λ (o : Obs). eqb o.set s && eqb o.target t) station.obs i any_obs inside
      (both_pass (get_or station.obs i any_obs).set s
      (get_or station.obs i any_obs).target t p.0 p.1)
      (λ j l. other_place (get_or station.obs j any_obs).set s
      (get_or station.obs j any_obs).target t T (λ e. let f =
      place-full (length station.sets) T station.obs valid.obs.within valid.obs.ordered full j
      (omega arith) in absurd (omega arith))))
