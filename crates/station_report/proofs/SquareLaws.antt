-- The sum of squares of a balanced choice, by factors near its residuals.
use Rattle.std.proofs.Common.{◌≡◌, ℕ, suc, ◌+◌, ◌*◌, ◌≤◌, ◌<◌, List, All, length, get_or, take}
use Rattle.std.proofs.Common.{zero, subst}
use Rattle.std.proofs.Common.{ℤ, pos, negsuc, neg_ℤ, ◌+ℤ◌, ◌≤ℤ◌, arith, ap, refl, sym, ◌∙◌}
use native.Mathlib.Decide.{dec_le}
use Rattle.std.proofs.Math.IntN.{◌*ℤ◌, ◌-ℤ◌}
use Rattle.std.proofs.Math.Nat.{le_of_mul-le-mul_left, mul-le-mul_left, mul-le-mul_right}
use Rattle.std.proofs.lemmas.Int.{ints}
use Rattle.std.proofs.lemmas.List.{take_more}
use Rattle.std.proofs.lemmas.List.Elements.{recursion_from_All}
use Rattle.adjust_kernel.specs.Residuals.{Choice, residual, set_sum, sum_of_squares, target_sum}
use Rattle.adjust_kernel.specs.Residuals.{unrolled}
use Rattle.adjust_kernel.specs.Sums.{int_sum_by, squared}
use Rattle.adjust_kernel.specs.TurnedObservations.{TurnedObservation}
use Rattle.adjust_kernel.specs.Turns.{IsLimited}
use Rattle.adjust_kernel.specs.Within.{IsWithin}
use Rattle.adjust_kernel.proofs.BalanceLaws.{IsBalanced, all_vanish}
use Rattle.adjust_kernel.proofs.ObservationLaws.{IsPlaced}
use Rattle.adjust_kernel.proofs.Ring.{num, ◌⊕◌, ◌⊖◌, ◌⊗◌, same_value}
use Rattle.adjust_kernel.proofs.SquareBounds.{int_sum_by-at_most, within_squared}
use Rattle.adjust_kernel.proofs.SumLaws.{AllByRecursion-map, int_sum_by-add, int_sum_by-keys}
use Rattle.adjust_kernel.proofs.LeastLaws.{squared-not_negative}
use Rattle.adjust_kernel.proofs.SumLaws.{int_sum_by-not_negative, int_sum_by-push}
use Rattle.adjust_kernel.specs.Pairs.{turned_by}
use Rattle.adjust_kernel.specs.Stations.{IsStation, StationValue}
use Rattle.adjust_kernel.specs.declared.obs.Obs.{Obs}
use Rattle.exact_adjustment.proofs.ExactLaws.{placed}
use Rattle.exact_adjustment.proofs.SideLaws.{length-turned, residual_is}
use Rattle.exact_adjustment.specs.Adjustments.{AdjustmentValue, choice_by}
use Rattle.exact_adjustment.specs.Exact.{IsExact, KeepsLimit, observed_by}
use Rattle.station_report.specs.Factors.{IsWhole}
use Rattle.adjust_kernel.proofs.SumLaws.{int_sum_by-same, int_sum_by-scale, int_sum_by-sub}

-- Where the sums of the targets and sets that there are vanish, all do.
pub balanced : (sets targets : ℕ) (c : Choice) (rs : List TurnedObservation)
    → All (IsPlaced sets targets) rs
    → ((t : ℕ) → t < targets → target_sum c rs t ≡ pos 0)
    → ((s : ℕ) → s < sets → set_sum c rs s ≡ pos 0) → IsBalanced c rs
balanced sets targets c rs at target_sums set_sums =
    let placed = recursion_from_All (IsPlaced sets targets) rs at in
    record {
      targets = all_vanish (λ (r : TurnedObservation). r.target) (residual c) targets rs
          (AllByRecursion-map (IsPlaced sets targets)
          (λ (r : TurnedObservation). r.target < targets) (λ r p. p.target_in) rs placed)
          target_sums;
      sets = all_vanish (λ (r : TurnedObservation). r.set) (residual c) sets rs
          (AllByRecursion-map (IsPlaced sets targets) (λ (r : TurnedObservation). r.set < sets)
          (λ r p. p.set_in) rs placed) set_sums;
    }

-- A factor times the denominator is the residual, but for what is the target's and the set's alone.
factor_is : (d : ℕ) (a s y t o : ℤ)
    → pos d *ℤ (t -ℤ o -ℤ y)
    ≡ (a -ℤ s -ℤ pos d *ℤ y) +ℤ ((pos d *ℤ t -ℤ a) -ℤ (pos d *ℤ o -ℤ s))
factor_is d a s y t o =
    let d' = num (pos d) in
    same_value (d' ⊗ (num t ⊖ num o ⊖ num y))
    ((num a ⊖ num s ⊖ d' ⊗ num y) ⊕ ((d' ⊗ num t ⊖ num a) ⊖ (d' ⊗ num o ⊖ num s)))
    (omega arith)

moved_out : (d : ℕ) (v k : ℤ) → pos d *ℤ (v *ℤ k) ≡ v *ℤ (pos d *ℤ k)
moved_out d v k =
    same_value (num (pos d) ⊗ (num v ⊗ num k)) (num v ⊗ (num (pos d) ⊗ num k)) (omega arith)

opened : (v x y : ℤ) → v *ℤ (v +ℤ (x -ℤ y)) ≡ v *ℤ v +ℤ (v *ℤ x -ℤ v *ℤ y)
opened v x y =
    same_value (num v ⊗ (num v ⊕ (num x ⊖ num y)))
    (num v ⊗ num v ⊕ (num v ⊗ num x ⊖ num v ⊗ num y)) (omega arith)

nothing_added : (s a b : ℤ) → a ≡ pos 0 → b ≡ pos 0 → s +ℤ (a -ℤ b) ≡ s
nothing_added s a b p q = omega (arith, ints, p, q)

module _ (c : Choice) (t o : ℕ → ℤ) where
  -- What a factor is more than its residual by its target, and by its set.
  abbrev of_target : ℕ → ℤ
  of_target n = pos c.denominator *ℤ t n -ℤ c.direction n

  abbrev of_set : ℕ → ℤ
  of_set n = pos c.denominator *ℤ o n -ℤ c.orientation n

  at_row : (r : TurnedObservation)
      → pos c.denominator *ℤ (residual c r *ℤ (t r.target -ℤ o r.set -ℤ unrolled r))
      ≡ squared (residual c r)
      +ℤ (residual c r *ℤ of_target r.target -ℤ residual c r *ℤ of_set r.set)
  at_row r =
      moved_out c.denominator (residual c r) (t r.target -ℤ o r.set -ℤ unrolled r)
      ∙ ap (λ z. residual c r *ℤ z)
      (factor_is c.denominator (c.direction r.target) (c.orientation r.set) (unrolled r)
      (t r.target) (o r.set))
      ∙ opened (residual c r) (of_target r.target) (of_set r.set)

  -- The residuals times factors near them, whatever numbers stand for a target and for a set, add
  -- up to the sum of squares over the denominator.
  pub squares_by_factors : (rs : List TurnedObservation) → IsBalanced c rs
      → pos c.denominator
      *ℤ int_sum_by (λ r. residual c r *ℤ (t r.target -ℤ o r.set -ℤ unrolled r)) rs
      ≡ sum_of_squares c rs
  squares_by_factors rs b =
      let v : TurnedObservation → ℤ = residual c in
      sym (int_sum_by-scale (pos c.denominator)
      (λ r. residual c r *ℤ (t r.target -ℤ o r.set -ℤ unrolled r)) rs)
      ∙ int_sum_by-same _ _ at_row rs
      ∙ int_sum_by-add (λ r. squared (v r))
      (λ r. v r *ℤ of_target r.target -ℤ v r *ℤ of_set r.set) rs
      ∙ ap (λ z. sum_of_squares c rs +ℤ z)
      (int_sum_by-sub (λ r. v r *ℤ of_target r.target) (λ r. v r *ℤ of_set r.set) rs)
      ∙ nothing_added (sum_of_squares c rs) _ _
      (int_sum_by-keys (λ (r : TurnedObservation). r.target) v of_target rs b.targets)
      (int_sum_by-keys (λ (r : TurnedObservation). r.set) v of_set rs b.sets)

-- No residual is above a limit: so the sum of squares is bounded.
pub squares_at_most : (limit : ℕ) (c : Choice) (rs : List TurnedObservation) → IsLimited limit c rs
    → sum_of_squares c rs
    ≤ℤ pos (length rs * ((limit * c.denominator) * (limit * c.denominator)))
squares_at_most limit c rs h =
    int_sum_by-at_most (λ r. squared (residual c r))
    ((limit * c.denominator) * (limit * c.denominator)) rs
    (AllByRecursion-map (λ r. IsWithin (pos (limit * c.denominator)) (residual c r))
    (λ r. squared (residual c r) ≤ℤ pos ((limit * c.denominator) * (limit * c.denominator)))
    (λ r p. within_squared (limit * c.denominator) (residual c r) p) rs
    (recursion_from_All (λ r. IsWithin (pos (limit * c.denominator)) (residual c r)) rs h))

-- So is what the denominator goes into it.
pub few_squares : (d n squares : ℕ) (s : ℤ) → 1 ≤ d → pos (d * squares) ≡ s
    → s ≤ℤ pos (n * ((2_000 * d) * (2_000 * d))) → squares ≤ d * (4_000_000 * n)
few_squares d n squares s some is most =
    let e : n * ((2_000 * d) * (2_000 * d)) ≡ d * (d * (4_000_000 * n)) = omega arith in
    let h : d * squares ≤ d * (d * (4_000_000 * n)) = omega (arith, ints, is, most, e) in
    le_of_mul-le-mul_left h some

-- The factor near the residual of an observation, lifted.
abbrev pub near : List ℕ → List ℕ → TurnedObservation → ℤ
near directions orientations r =
    (pos (get_or directions r.target 0) +ℤ pos 2_000) -ℤ pos (get_or orientations r.set 0)
    -ℤ unrolled r

by_parts : (sum sum2 off off2 x y : ℕ) (s p : ℤ) → sum2 ≡ sum + x → off2 ≡ off + y
    → p ≡ pos x -ℤ pos y → (pos sum -ℤ pos off) ≡ s → (pos sum2 -ℤ pos off2) ≡ s +ℤ p
by_parts sum sum2 off off2 x y s p more more_off product before =
    omega (arith, ints, more, more_off, product, before)

-- One observation more: both factors were lifted.
pub lifted_step : (sum factors d w m sum2 factors2 : ℕ) (s v k : ℤ) → sum2 ≡ sum + w * m
    → factors2 ≡ factors + m → pos w ≡ v +ℤ pos (2_000 * d) → pos m ≡ k
    → (pos sum -ℤ pos (d * (2_000 * factors))) ≡ s
    → (pos sum2 -ℤ pos (d * (2_000 * factors2))) ≡ s +ℤ v *ℤ k
lifted_step sum factors d w m sum2 factors2 s v k more count lifted factor before =
    let v_is : v ≡ pos w -ℤ pos (2_000 * d) = omega (arith, ints, lifted) in
    let product : v *ℤ k ≡ pos (w * m) -ℤ pos (2_000 * d * m) =
    (λ i. v_is i *ℤ sym factor i)
    ∙ same_value ((num (pos w) ⊖ num (pos (2_000 * d))) ⊗ num (pos m))
    (num (pos (w * m)) ⊖ num (pos (2_000 * d * m))) (omega arith) in
    let twice : d * (2_000 * factors2) ≡ d * (2_000 * factors) + 2_000 * d * m =
    ap (λ n. d * (2_000 * n)) count ∙ (let e : d * (2_000 * (factors + m))
    ≡ d * (2_000 * factors) + 2_000 * d * m = omega arith in e) in
    by_parts sum sum2 (d * (2_000 * factors)) (d * (2_000 * factors2)) (w * m) (2_000 * d * m) s
    (v *ℤ k) more twice product before

times_y : (d t o k : ℕ) (y : ℤ) → pos k ≡ pos t -ℤ pos o -ℤ y
    → pos d *ℤ y ≡ (pos (d * t) -ℤ pos (d * o)) -ℤ pos (d * k)
times_y d t o k y is =
    let y_is : y ≡ pos t -ℤ pos o -ℤ pos k = omega (arith, ints, is) in
    ap (λ z. pos d *ℤ z) y_is
    ∙ same_value (num (pos d) ⊗ (num (pos t) ⊖ num (pos o) ⊖ num (pos k)))
    (num (pos (d * t)) ⊖ num (pos (d * o)) ⊖ num (pos (d * k))) (omega arith)

times_y_less : (d t o k : ℕ) (y : ℤ) → negsuc k ≡ pos t -ℤ pos o -ℤ y
    → pos d *ℤ y ≡ (pos (d * t) -ℤ pos (d * o)) +ℤ pos (d * suc k)
times_y_less d t o k y is =
    let y_is : y ≡ pos t -ℤ pos o +ℤ pos (suc k) = omega (arith, ints, is) in
    ap (λ z. pos d *ℤ z) y_is
    ∙ same_value (num (pos d) ⊗ (num (pos t) ⊖ num (pos o) ⊕ num (pos (suc k))))
    (num (pos (d * t)) ⊖ num (pos (d * o)) ⊕ num (pos (d * suc k))) (omega arith)

-- The factor near a residual is a whole number of a bounded size.
pub near_is_small : (d a s t o : ℕ) (v y k : ℤ) → 1 ≤ d → d * t ≤ a → a < d * (t + 1)
    → d * o ≤ s → s < d * (o + 1) → v ≡ pos a -ℤ pos s -ℤ pos d *ℤ y
    → neg_ℤ (pos (2_000 * d)) ≤ℤ v → v ≤ℤ pos (2_000 * d)
    → k ≡ pos t -ℤ pos o -ℤ y → IsWithin (pos 2_000) k
near_is_small d a s t o v y (pos k) some a_low a_high s_low s_high v_is low high is =
    let e : pos d *ℤ y ≡ (pos (d * t) -ℤ pos (d * o)) -ℤ pos (d * k) = times_y d t o k y is in
    record { low = omega (arith, ints); high = by (dec_le k 2_000) e }
  where
    by : Dec (k ≤ 2_000) → pos d *ℤ y ≡ (pos (d * t) -ℤ pos (d * o)) -ℤ pos (d * k)
        → pos k ≤ℤ pos 2_000
    by (yes h) e = omega (arith, ints, h)
    by (no h) e =
        let more : d * 2_001 ≤ d * k = mul-le-mul_left d (omega (arith, h)) in
        absurd (omega (arith, ints, some, a_low, a_high, s_low, s_high, v_is, low, high, e, more))
near_is_small d a s t o v y (negsuc k) some a_low a_high s_low s_high v_is low high is =
    let e : pos d *ℤ y ≡ (pos (d * t) -ℤ pos (d * o)) +ℤ pos (d * suc k) = times_y_less d t o k y is
    in record { low = by (dec_le (suc k) 2_000) e; high = omega (arith, ints) }
  where
    by : Dec (suc k ≤ 2_000) → pos d *ℤ y ≡ (pos (d * t) -ℤ pos (d * o)) +ℤ pos (d * suc k)
        → neg_ℤ (pos 2_000) ≤ℤ negsuc k
    by (yes h) e = omega (arith, ints, h)
    by (no h) e =
        let more : d * 2_001 ≤ d * suc k = mul-le-mul_left d (omega (arith, h)) in
        absurd (omega (arith, ints, some, a_low, a_high, s_low, s_high, v_is, low, high, e, more))

some_of : (d x a : ℕ) → a < d * x → 1 ≤ d
some_of zero x a h = absurd (omega (arith, h))
some_of (suc d) x a h = omega arith

-- The factor of an observation, by the parts of an adjustment.
pub factor_is_small : (a : AdjustmentValue) (o : Obs) (turn : ℤ) (t s : ℕ)
    → IsWhole a.denominator (get_or a.directions o.target 0) t
    → IsWhole a.denominator (get_or a.orientations o.set 0) s
    → IsWithin (pos (2_000 * a.denominator)) (residual (choice_by a) (turned_by o turn))
    → IsWithin (pos 2_000) (pos t -ℤ pos s -ℤ unrolled (turned_by o turn))
factor_is_small a o turn t s p q limited =
    near_is_small a.denominator (get_or a.directions o.target 0) (get_or a.orientations o.set 0) t s
    (residual (choice_by a) (turned_by o turn)) (unrolled (turned_by o turn))
    (pos t -ℤ pos s -ℤ unrolled (turned_by o turn))
    (some_of a.denominator (t + 1) (get_or a.directions o.target 0) p.high) p.low p.high q.low
    q.high
    (residual_is a o turn) limited.low limited.high refl

-- A number is not negative if a multiple is not.
not_negative_of : (d : ℕ) (z : ℤ) → 1 ≤ d → pos 0 ≤ℤ (pos d *ℤ z) → pos 0 ≤ℤ z
not_negative_of d (pos n) some h = omega (arith, ints)
not_negative_of d (negsuc n) some h =
    let e : pos d *ℤ negsuc n ≡ pos 0 -ℤ pos (d * suc n) =
    same_value (num (pos d) ⊗ num (negsuc n)) (num (pos 0) ⊖ num (pos (d * suc n))) (omega arith) in
    let more : 1 * suc n ≤ d * suc n = mul-le-mul_right (suc n) some in
    absurd (omega (arith, ints, h, e, more))

module _ (station : StationValue) (s : IsStation station) (a : AdjustmentValue)
    (exact : IsExact station a) (ds os : List ℕ) where
  -- The residuals times the factors near them.
  abbrev pub products : ℤ
  products = int_sum_by (λ r. residual (choice_by a) r *ℤ near ds os r) (observed_by station a)

  pub times_denominator : pos a.denominator *ℤ products
      ≡ sum_of_squares (choice_by a) (observed_by station a)
  times_denominator =
      squares_by_factors (choice_by a) (λ n. pos (get_or ds n 0) +ℤ pos 2_000)
      (λ n. pos (get_or os n 0)) (observed_by station a)
      (balanced (length station.sets) (length station.targets) (choice_by a)
      (observed_by station a)
      (placed (length station.sets) (length station.targets) station.obs a.turns s.obs.within)
      exact.sums.target_sums exact.sums.set_sums)

  -- Their sum is not negative.
  pub not_below : pos 0 ≤ℤ products
  not_below =
      let h : pos 0 ≤ℤ sum_of_squares (choice_by a) (observed_by station a) =
      int_sum_by-not_negative (λ r. squared (residual (choice_by a) r))
      (λ r. squared-not_negative (residual (choice_by a) r)) (observed_by station a) in
      not_negative_of a.denominator products exact.rules.positive
      (subst (λ z. pos 0 ≤ℤ z) (sym times_denominator) h)

  -- It is the sum of squares over the denominator.
  pub squares_are : (n : ℕ) → pos n ≡ products
      → pos (a.denominator * n) ≡ sum_of_squares (choice_by a) (observed_by station a)
  squares_are n is =
      same_value (num (pos (a.denominator * n))) (num (pos a.denominator) ⊗ num (pos n))
      (omega arith)
      ∙ ap (λ z. pos a.denominator *ℤ z) is ∙ times_denominator

  -- And bounded.
  pub squares_within : (limited : KeepsLimit station a 2_000) (n : ℕ) → pos n ≡ products
      → n ≤ a.denominator * (4_000_000 * length station.obs)
  squares_within limited n is =
      few_squares a.denominator (length station.obs) n
      (sum_of_squares (choice_by a) (observed_by station a)) exact.rules.positive
      (squares_are n is)
      (subst (λ k. sum_of_squares (choice_by a) (observed_by station a)
      ≤ℤ pos (k * ((2_000 * a.denominator) * (2_000 * a.denominator))))
      (length-turned station.obs a.turns exact.each)
      (squares_at_most 2_000 (choice_by a) (observed_by station a) limited))

-- One element more in a sum.
pub one_more : (f : TurnedObservation → ℤ) (rs : List TurnedObservation) (i : ℕ)
    (d : TurnedObservation) → i < length rs
    → int_sum_by f (take (i + 1) rs) ≡ int_sum_by f (take i rs) +ℤ f (get_or rs i d)
one_more f rs i d h = ap (int_sum_by f) (take_more rs i d h)
    ∙ int_sum_by-push f (take i rs) (get_or rs i d)
