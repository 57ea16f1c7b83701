-- Sums over the observations of a complete station: over its sets, and within a set over its
-- targets.
use Rattle.std.proofs.Common.{◌≡◌, ℕ, suc, zero, ◌+◌, ◌*◌, ◌≤◌, ◌<◌, Bool, true, false, cond, eqb}
use Rattle.std.proofs.Common.{List, length, take, get_or, ℤ, pos, ◌+ℤ◌, arith, ap, refl, sym, ◌∙◌}
use Rattle.std.proofs.Math.IntN.{◌*ℤ◌, ◌-ℤ◌, *ℤ-zero, suc_ℤ-*ℤ}
use Rattle.std.proofs.Math.Nat.{mul-le-mul}
use Rattle.std.proofs.lemmas.Int.{ints}
use Rattle.std.proofs.lemmas.Bool.{ne_eqb}
use Rattle.std.proofs.lemmas.Bool.Decides.{nat_tests}
use Rattle.std.proofs.lemmas.List.{take_all}
use Rattle.adjust_kernel.specs.Sums.{int_sum_by, int_sum_where}
use Rattle.adjust_kernel.specs.TurnedObservations.{TurnedObservation}
use Rattle.adjust_kernel.specs.Residuals.{unrolled}
use Rattle.adjust_kernel.proofs.SumLaws.{int_sum_by_more}
use Rattle.sheet_means.specs.Totals.{observation_at, target_total, set_total, whole_total}
use Rattle.sheet_means.proofs.Products.{over_sum}
use native.Mathlib.Decide.{ℕ_discrete}

-- The sum f 0 + .. + f (n - 1).
abbrev pub sum_below : ℕ → (ℕ → ℤ) → ℤ
sum_below zero f = pos 0
sum_below (suc n) f = sum_below n f +ℤ f n

-- Sums of the same terms are the same.
pub sum_below-same : (n : ℕ) (f g : ℕ → ℤ) → ((k : ℕ) → k < n → f k ≡ g k)
    → sum_below n f ≡ sum_below n g
sum_below-same zero f g h = refl
sum_below-same (suc n) f g h = λ i. sum_below-same n f g (λ k l. h k (omega arith)) i
    +ℤ h n (omega arith) i

-- The sum of sums is the sum of both.
sum_below-add : (n : ℕ) (f g : ℕ → ℤ) → sum_below n (λ k. f k +ℤ g k)
    ≡ sum_below n f +ℤ sum_below n g
sum_below-add zero f g = refl
sum_below-add (suc n) f g = let e = sum_below-add n f g in omega (arith, ints)

-- The sum of differences is the difference of the sums.
pub sum_below-sub : (n : ℕ) (f g : ℕ → ℤ) → sum_below n (λ k. f k -ℤ g k)
    ≡ sum_below n f -ℤ sum_below n g
sum_below-sub zero f g = refl
sum_below-sub (suc n) f g = let e = sum_below-sub n f g in omega (arith, ints)

-- A factor of each term is a factor of the sum.
pub sum_below-scale : (n : ℕ) (c : ℤ) (f : ℕ → ℤ) → sum_below n (λ k. c *ℤ f k) ≡ c *ℤ sum_below n f
sum_below-scale zero c f = sym (*ℤ-zero c)
sum_below-scale (suc n) c f =
    ap (λ s. s +ℤ c *ℤ f n) (sum_below-scale n c f) ∙ sym (over_sum c (sum_below n f) (f n))

-- The sum of one term, some times, is so many times the term.
pub sum_below-const : (n : ℕ) (z : ℤ) → sum_below n (λ k. z) ≡ pos n *ℤ z
sum_below-const zero z = omega (arith, ints)
sum_below-const (suc n) z = ap (λ s. s +ℤ z) (sum_below-const n z) ∙ sym (suc_ℤ-*ℤ (pos n) z)

-- Rows and columns may be exchanged.
sum_below-swap : (n m : ℕ) (f : ℕ → ℕ → ℤ) → sum_below n (λ i. sum_below m (λ j. f i j))
    ≡ sum_below m (λ j. sum_below n (λ i. f i j))
sum_below-swap zero m f = sym (sum_below-const m (pos 0) ∙ *ℤ-zero (pos m))
sum_below-swap (suc n) m f = ap (λ s. s +ℤ sum_below m (λ j. f n j)) (sum_below-swap n m f)
    ∙ sym (sum_below-add m (λ j. sum_below n (λ i. f i j)) (λ j. f n j))

none_below : (n k : ℕ) (f : ℕ → ℤ) → n ≤ k → sum_below n (λ j. cond (eqb j k) (f j) (pos 0)) ≡ pos 0
none_below zero k f h = refl
none_below (suc n) k f h = λ i. none_below n k f (omega arith) i
    +ℤ cond (ne_eqb n k (λ e. apart n k e h) i) (f n) (pos 0)
  where
    apart : (a b : ℕ) → a ≡ b → suc a ≤ b → ⊥
    apart a b e h = omega arith

-- Where one term alone is counted, the sum is that term.
sum_below-only : (n k : ℕ) (f : ℕ → ℤ) → k < n
    → sum_below n (λ j. cond (eqb j k) (f j) (pos 0)) ≡ f k
sum_below-only zero k f h = absurd (omega arith)
sum_below-only (suc n) k f h = by (ℕ_discrete n k) (sum_below-only n k f)
  where
    by : Dec (n ≡ k) → (k < n → sum_below n (λ j. cond (eqb j k) (f j) (pos 0)) ≡ f k)
        → sum_below (suc n) (λ j. cond (eqb j k) (f j) (pos 0)) ≡ f k
    by (yes e) below =
        let t : eqb n k ≡ true = grind (arith, nat_tests) in
        let a : sum_below n (λ j. cond (eqb j k) (f j) (pos 0)) ≡ pos 0 =
        none_below n k f (omega arith) in
        let b : cond (eqb n k) (f n) (pos 0) ≡ f k = ap (λ c. cond c (f n) (pos 0)) t ∙ ap f e in
        omega (arith, ints)
    by (no d) below =
        let a = below (omega arith) in
        let b : cond (eqb n k) (f n) (pos 0) ≡ pos 0 =
        ap (λ c. cond c (f n) (pos 0)) (ne_eqb n k d) in
        omega (arith, ints)

sum_below-where : (b : Bool) (n : ℕ) (f : ℕ → ℤ) → sum_below n (λ k. cond b (f k) (pos 0))
    ≡ cond b (sum_below n f) (pos 0)
sum_below-where true n f = refl
sum_below-where false n f = sum_below-const n (pos 0) ∙ *ℤ-zero (pos n)

-- What is read at a place that no observation has.
abbrev pub any_observation : TurnedObservation
any_observation = record { set = 0; target = 0; value = 0; turn = pos 0 }

-- The observations of a complete station: one of each set and target, set by set.
pub record AreGrid (sets targets : ℕ) (observations : List TurnedObservation) : Type 0 where
  pub long : length observations ≡ sets * targets
  pub at_place : (s t : ℕ) → s < sets → t < targets
      → ((get_or observations (s * targets + t) any_observation).set ≡ s)
      × ((get_or observations (s * targets + t) any_observation).target ≡ t)

module _ (sets targets : ℕ) (observations : List TurnedObservation)
    (grid : AreGrid sets targets observations) where
  -- The observation of a set and a target.
  abbrev pub at : ℕ → ℕ → TurnedObservation
  at s t = observation_at observations targets s t

  -- It stands inside the list.
  pub inside : (s t : ℕ) → s < sets → t < targets → s * targets + t < length observations
  inside s t h k = let e : suc s * targets ≤ sets * targets = mul-le-mul h (omega arith) in
      let f = grid.long in omega arith

  module _ (f : TurnedObservation → ℤ) where
    set_more : (s t : ℕ) → s < sets → t ≤ targets
        → int_sum_by f (take (s * targets + t) observations)
        ≡ int_sum_by f (take (s * targets) observations) +ℤ sum_below t (λ k. f (at s k))
    set_more s zero h k = let e : s * targets + 0 ≡ s * targets = omega arith in
        let g : int_sum_by f (take (s * targets + 0) observations)
        ≡ int_sum_by f (take (s * targets) observations) =
        ap (λ n. int_sum_by f (take n observations)) e in omega (arith, ints)
    set_more s (suc t) h k =
        let e : s * targets + suc t ≡ s * targets + t + 1 = omega arith in
        let g : int_sum_by f (take (s * targets + suc t) observations)
        ≡ int_sum_by f (take (s * targets + t + 1) observations) =
        ap (λ n. int_sum_by f (take n observations)) e in
        let m = int_sum_by_more f observations (s * targets + t) any_observation
        (inside s t h (omega arith)) in
        let r = set_more s t h (omega arith) in
        omega (arith, ints)

    sets_to : (s : ℕ) → s ≤ sets → int_sum_by f (take (s * targets) observations)
        ≡ sum_below s (λ j. sum_below targets (λ k. f (at j k)))
    sets_to zero h = let e : 0 * targets ≡ 0 = omega arith in
        ap (λ n. int_sum_by f (take n observations)) e
    sets_to (suc s) h =
        let e : suc s * targets ≡ s * targets + targets = omega arith in
        let g : int_sum_by f (take (suc s * targets) observations)
        ≡ int_sum_by f (take (s * targets + targets) observations) =
        ap (λ n. int_sum_by f (take n observations)) e in
        let m = set_more s targets (omega arith) (omega arith) in
        let r = sets_to s (omega arith) in
        omega (arith, ints)

    -- A sum over all observations is one over the sets, and within a set over its targets.
    sum_of_all : int_sum_by f observations ≡ sum_below sets
        (λ s. sum_below targets (λ t. f (at s t)))
    sum_of_all = ap (int_sum_by f) (sym (take_all (sets * targets) observations
        (omega (arith, grid.long)))) ∙ sets_to sets (omega arith)

  -- A sum over the observations of a target is one over the sets.
  pub sum_of_target : (f : TurnedObservation → ℤ) (t : ℕ) → t < targets
      → int_sum_where (λ r. eqb r.target t) f observations ≡ sum_below sets (λ s. f (at s t))
  sum_of_target f t h =
      sum_of_all (λ r. cond (eqb r.target t) (f r) (pos 0))
      ∙ sum_below-same sets (λ s. sum_below targets (λ k. cond (eqb (at s k).target t) (f (at s k))
      (pos 0))) (λ s. f (at s t))
      (λ s l. sum_below-same targets (λ k. cond (eqb (at s k).target t) (f (at s k)) (pos 0))
      (λ k. cond (eqb k t) (f (at s k)) (pos 0))
      (λ k m. ap (λ n. cond (eqb n t) (f (at s k)) (pos 0)) (grid.at_place s k l m).1)
      ∙ sum_below-only targets t (λ k. f (at s k)) h)

  -- A sum over the observations of a set is one over the targets.
  pub sum_of_set : (f : TurnedObservation → ℤ) (s : ℕ) → s < sets
      → int_sum_where (λ r. eqb r.set s) f observations ≡ sum_below targets (λ t. f (at s t))
  sum_of_set f s h =
      sum_of_all (λ r. cond (eqb r.set s) (f r) (pos 0))
      ∙ sum_below-same sets (λ j. sum_below targets (λ k. cond (eqb (at j k).set s) (f (at j k))
      (pos 0))) (λ j. cond (eqb j s) (sum_below targets (λ k. f (at j k))) (pos 0))
      (λ j l. sum_below-same targets (λ k. cond (eqb (at j k).set s) (f (at j k)) (pos 0))
      (λ k. cond (eqb j s) (f (at j k)) (pos 0))
      (λ k m. ap (λ n. cond (eqb n s) (f (at j k)) (pos 0)) (grid.at_place j k l m).0)
      ∙ sum_below-where (eqb j s) targets (λ k. f (at j k)))
      ∙ sum_below-only sets s (λ j. sum_below targets (λ k. f (at j k))) h

  -- All observations are those of the targets together.
  whole_by_targets : whole_total observations ≡ sum_below targets (target_total observations)
  whole_by_targets =
      sum_of_all unrolled
      ∙ sum_below-swap sets targets (λ s t. unrolled (at s t))
      ∙ sum_below-same targets (λ t. sum_below sets (λ s. unrolled (at s t)))
      (target_total observations) (λ t h. sym (sum_of_target unrolled t h))

  -- All observations, less those of one target as often as there are targets.
  pub whole_less : (z : ℤ) → sum_below targets (λ t. target_total observations t -ℤ z)
      ≡ whole_total observations -ℤ pos targets *ℤ z
  whole_less z = sum_below-sub targets (target_total observations) (λ t. z)
      ∙ (λ i. sym whole_by_targets i -ℤ sum_below-const targets z i)

  -- All observations are those of the sets together.
  pub whole_by_sets : whole_total observations ≡ sum_below sets (set_total observations)
  whole_by_sets = sum_of_all unrolled
      ∙ sum_below-same sets (λ s. sum_below targets (λ t. unrolled (at s t)))
      (set_total observations)
      (λ s h. sym (sum_of_set unrolled s h))
