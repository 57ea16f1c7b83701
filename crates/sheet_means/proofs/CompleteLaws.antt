-- A station is complete where it has sets times targets observations; then the observation of each
-- set and target is at its place, set by set and within a set target by target.
use Rattle.std.proofs.Common.{◌≡◌, inl, inr, ℕ, suc, zero, ◌+◌, ◌-◌, ◌*◌, ◌≤◌, ◌<◌, List, length}
use Rattle.std.proofs.Common.{All, get_or, arith, ap, sym, ◌∙◌}
use Rattle.std.specs.Prelude.{Any, AllPairs}
use Rattle.std.proofs.Math.Nat.{mul-le-mul}
use Rattle.std.proofs.lemmas.List.{get_or_default}
use Rattle.adjust_kernel.specs.declared.obs.Obs.{Obs}
use Rattle.adjust_kernel.specs.Stations.{StationValue, IsStation, IsObs, IsBefore}
use Rattle.sheet_means.specs.Complete.{IsComplete}
use native.Mathlib.Decide.{dec_lt}

-- The place of an observation in a complete station of this many targets.
abbrev pub place_of : ℕ → Obs → ℕ
place_of targets o = o.set * targets + o.target

-- What is read at a place that no observation has.
abbrev pub any_obs : Obs
any_obs = record { set = 0; target = 0; value = 0 }

-- The place of a set and a target is below as many places as there are pairs of them.
pub place_below : (s t sets targets : ℕ) → s < sets → t < targets → s * targets + t < sets * targets
place_below s t sets targets h k = let e : suc s * targets ≤ sets * targets =
    mul-le-mul h (omega arith) in omega arith

before_place : (targets : ℕ) (a b : Obs) → a.target < targets → IsBefore a b
    → place_of targets a < place_of targets b
before_place targets a b h (inl lt) = let e : suc a.set * targets ≤ b.set * targets =
    mul-le-mul lt (omega arith) in omega arith
before_place targets a b h (inr e) = let f : a.set * targets ≡ b.set * targets =
    ap (λ n. n * targets) e.0 in omega (arith, e.1)

-- One place is that of one set and one target.
same_place : (s t s' t' targets : ℕ) → t < targets → t' < targets
    → s * targets + t ≡ s' * targets + t' → (s ≡ s') × (t ≡ t')
same_place s t s' t' targets h k e = by (dec_lt s s') (dec_lt s' s)
  where
    by : Dec (s < s') → Dec (s' < s) → (s ≡ s') × (t ≡ t')
    by (yes lt) d = let f : suc s * targets ≤ s' * targets = mul-le-mul lt (omega arith) in
        absurd (omega arith)
    by (no n) (yes lt) = let f : suc s' * targets ≤ s * targets = mul-le-mul lt (omega arith) in
        absurd (omega arith)
    by (no n) (no m) = let f : s ≡ s' = omega arith in let g : s * targets ≡ s' * targets =
        ap (λ n. n * targets) f in (f, omega arith)

-- Each place is that of some set and target.
set_and_target : (m sets targets : ℕ) → m < sets * targets
    → (s : ℕ) × (t : ℕ) × (s < sets) × (t < targets) × (s * targets + t ≡ m)
set_and_target m zero targets h = absurd (omega arith)
set_and_target m (suc sets) targets h = by (dec_lt m (sets * targets))
    (set_and_target m sets targets)
  where
    by : Dec (m < sets * targets) → (m < sets * targets
        → (s : ℕ) × (t : ℕ) × (s < sets) × (t < targets) × (s * targets + t ≡ m))
        → (s : ℕ) × (t : ℕ) × (s < suc sets) × (t < targets) × (s * targets + t ≡ m)
    by (yes lt) below = let f = below lt in (f.0, f.1, omega (arith, f.2), f.3, f.4)
    by (no n) below = (sets, m - sets * targets, omega arith, omega arith, omega arith)

module _ (sets targets : ℕ) (obs : List Obs) (within : All (IsObs sets targets) obs)
    (ordered : AllPairs IsBefore obs) where
  abbrev at : ℕ → Obs
  at i = get_or obs i any_obs

  climb : (i j : ℕ) → i + j < length obs → place_of targets (at i) + j
      ≤ place_of targets (at (i + j))
  climb i zero h = let e : i + 0 ≡ i = omega arith in let f : place_of targets (at (i + 0))
      ≡ place_of targets (at i) = ap (λ n. place_of targets (at n)) e in omega arith
  climb i (suc j) h =
      let e = climb i j (omega arith) in
      let f : place_of targets (at (i + j)) < place_of targets (at (i + suc j)) =
      before_place targets (at (i + j)) (at (i + suc j))
      (within (i + j) any_obs (omega arith)).target (ordered (i + j) (i + suc j) any_obs
      (omega arith) h) in
      omega arith

  place-at_least : (i : ℕ) → i < length obs → i ≤ place_of targets (at i)
  place-at_least i h = let e = climb 0 i (omega arith) in let f : place_of targets (at (0 + i))
      ≡ place_of targets (at i) = ap (λ n. place_of targets (at n)) (omega arith) in omega arith

  place-below : (i : ℕ) → i < length obs → place_of targets (at i) < sets * targets
  place-below i h = let w = within i any_obs h in
      place_below (at i).set (at i).target sets targets w.set w.target

  -- With all observations, each is at its place.
  pub place-full : length obs ≡ sets * targets → (i : ℕ) → i < length obs
      → place_of targets (at i) ≡ i
  place-full full i h =
      let j : ℕ = length obs - 1 - i in
      let e = climb i j (omega arith) in
      let f = place-below (i + j) (omega arith) in
      let g = place-at_least i h in
      omega arith

  -- So the observation at the place of a set and a target is theirs.
  pub at_place : length obs ≡ sets * targets → (s t : ℕ) → s < sets → t < targets
      → ((at (s * targets + t)).set ≡ s) × ((at (s * targets + t)).target ≡ t)
  at_place full s t h k =
      let i : ℕ = s * targets + t in
      let inside : i < length obs = let b = place_below s t sets targets h k in omega arith in
      same_place (at i).set (at i).target s t targets (within i any_obs inside).target k
      (place-full full i inside)

  full_is_complete : length obs ≡ sets * targets → (s t : ℕ) → s < sets → t < targets
      → Any (λ o. (o.set ≡ s) × (o.target ≡ t)) obs
  full_is_complete full s t h k =
      let i : ℕ = s * targets + t in
      let inside : i < length obs = let b = place_below s t sets targets h k in omega arith in
      (i, at i, inside, get_or_default obs i (at i) any_obs inside, at_place full s t h k)

  not_above : length obs ≤ sets * targets
  not_above = by (dec_lt 0 (length obs))
    where
      by : Dec (0 < length obs) → length obs ≤ sets * targets
      by (yes h) = let e = place-at_least (length obs - 1) (omega arith) in
          let f = place-below (length obs - 1) (omega arith) in omega arith
      by (no n) = omega arith

  record AreFilled (m : ℕ) : Type 0 where
    long : m ≤ length obs
    filled : (i : ℕ) → i < m → place_of targets (at i) ≡ i

  module _ (complete : (s t : ℕ) → s < sets → t < targets
      → Any (λ o. (o.set ≡ s) × (o.target ≡ t)) obs) where
    -- An observation has each place.
    found : (m : ℕ) → m < sets * targets → (j : ℕ) × (j < length obs) × (place_of targets (at j)
        ≡ m)
    found m h =
        let f = set_and_target m sets targets h in
        let a = complete f.0 f.1 f.2 f.3 in
        let e : at a.0 ≡ a.1 = get_or_default obs a.0 any_obs a.1 a.2 ∙ a.3 in
        (a.0, a.2, ap (place_of targets) e ∙ (λ i. a.4.0 i * targets + a.4.1 i) ∙ f.4)

    filled_to : (m : ℕ) → m ≤ sets * targets → AreFilled m
    filled_to zero h = record { long = omega arith; filled = λ i k. absurd (omega arith) }
    filled_to (suc m) h = by (filled_to m (omega arith)) (found m (omega arith))
      where
        by : AreFilled m → (j : ℕ) × (j < length obs) × (place_of targets (at j) ≡ m)
            → AreFilled (suc m)
        by a (j, inside, e) = here (dec_lt j m)
          where
            here : Dec (j < m) → AreFilled (suc m)
            here (yes lt) = let f = a.filled j lt in absurd (omega arith)
            here (no n) =
                let b = place-at_least j inside in
                let f : j ≡ m = omega arith in
                let g : place_of targets (at m) ≡ m = ap (λ k. place_of targets (at k)) (sym f)
                ∙ e in
                record { long = omega arith; filled = λ i k. last i k (dec_lt i m) g }
              where
                last : (i : ℕ) → i < suc m → Dec (i < m) → place_of targets (at m) ≡ m
                    → place_of targets (at i) ≡ i
                last i k (yes lt) g = a.filled i lt
                last i k (no n) g = let f : i ≡ m = omega arith in
                    ap (λ k. place_of targets (at k)) f ∙ g ∙ sym f

    complete_is_full : length obs ≡ sets * targets
    complete_is_full = let a = filled_to (sets * targets) (omega arith) in let b = not_above in
        let c = a.long in omega arith

module _ (station : StationValue) (valid : IsStation station) where
  -- A station with as many observations as pairs of a set and a target is complete.
  pub complete_where_full : length station.obs ≡ length station.sets * length station.targets
      → IsComplete station
  complete_where_full = full_is_complete (length station.sets)
      (length station.targets) station.obs valid.obs.within valid.obs.ordered

  -- And a complete station has as many.
  pub full_where_complete : IsComplete station
      → length station.obs ≡ length station.sets * length station.targets
  full_where_complete = complete_is_full (length station.sets)
      (length station.targets) station.obs valid.obs.within valid.obs.ordered
