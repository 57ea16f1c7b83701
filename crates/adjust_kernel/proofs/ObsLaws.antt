-- The order of observations: each comes before all later ones where it comes before the next.
use Rattle.std.proofs.Common.{zero, suc, refl, ◌≡◌, ◌*◌, ℕ, ◌+◌, ◌-◌, ◌<◌, ◌≤◌, inl, inr, List}
use Rattle.std.proofs.Common.{length, get_or, arith, below_more}
use Rattle.std.proofs.lemmas.List.{get_or_default}
use Rattle.adjust_kernel.specs.declared.obs.Obs.{Obs}
use Rattle.adjust_kernel.specs.declared.bounds.TheConstants.{MOST_ROWS, MOST_SETS, MOST_TARGETS}
use Rattle.adjust_kernel.specs.Stations.{AreObs, IsBefore, IsObs}
use Rattle.adjust_kernel.proofs.EachTwo.{PairsBelow, pairs_more}

before_both : (a b c : Obs) → IsBefore a b → IsBefore b c → IsBefore a c
before_both a b c (inl e) (inl f) = inl (omega arith)
before_both a b c (inl e) (inr f) = inl (omega arith)
before_both a b c (inr e) (inl f) = inl (omega arith)
before_both a b c (inr e) (inr f) = inr (omega arith, omega arith)

-- One more observation, before which the last one comes; d is any default.
pub ordered_more : (obs : List Obs) (n : ℕ) (d : Obs) → 1 ≤ n → n < length obs
    → PairsBelow IsBefore obs n → IsBefore (get_or obs (n - 1) d) (get_or obs n d)
    → PairsBelow IsBefore obs (n + 1)
ordered_more obs n d some inside h last = pairs_more IsBefore obs n h new where
  last_at : (e : Obs) → IsBefore (get_or obs (n - 1) e) (get_or obs n e)
  last_at e = rw (get_or_default obs (n - 1) e d (omega arith), get_or_default obs n e d inside)
      last

  new : (i : ℕ) (e : Obs) → i < n → IsBefore (get_or obs i e) (get_or obs n e)
  new i e below =
      below_more (λ k. IsBefore (get_or obs k e) (get_or obs n e)) (n - 1)
      (λ k lt. before_both (get_or obs k e) (get_or obs (n - 1) e) (get_or obs n e)
      (h (n - 1) (omega arith) k e lt) (last_at e)) (last_at e) i (omega arith)

module _ (sets targets : ℕ) (obs : List Obs) (h : AreObs sets targets obs)
    (few_sets : sets ≤ MOST_SETS) (few_targets : targets ≤ MOST_TARGETS) where
  at_least_place : (n : ℕ) (d : Obs) → n < length obs
      → n ≤ (get_or obs n d).set * MOST_TARGETS + (get_or obs n d).target
  at_least_place zero d inside = omega arith
  at_least_place (suc n) d inside =
      by (h.ordered n (suc n) d (omega arith) inside) (at_least_place n d (omega arith))
      (h.within n d (omega arith)) where
        by : IsBefore (get_or obs n d) (get_or obs (suc n) d)
            → n ≤ (get_or obs n d).set * MOST_TARGETS + (get_or obs n d).target
            → IsObs sets targets (get_or obs n d)
            → suc n ≤ (get_or obs (suc n) d).set * MOST_TARGETS + (get_or obs (suc n) d).target
        by (inl e) earlier o = let t = o.target in omega (arith, t, few_targets)
        by (inr e) earlier o = omega arith

  -- A station has at most an observation of each target in each set.
  pub few_obs : length obs ≤ MOST_ROWS
  few_obs = by (length obs) refl where
    any_obs : Obs
    any_obs = record { set = 0; target = 0; value = 0 }

    by : (n : ℕ) → length obs ≡ n → length obs ≤ MOST_ROWS
    by zero e = omega arith
    by (suc n) e =
        let last = at_least_place n any_obs (omega arith) in
        let o = h.within n any_obs (omega arith) in
        let s = o.set in
        let t = o.target in
        omega (arith, last, s, t, few_sets, few_targets, e)
