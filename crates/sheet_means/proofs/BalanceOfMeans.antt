-- The residuals of the means of a complete station add to 0, for each target and for each set.
use Rattle.std.proofs.Common.{◌≡◌, ℕ, ◌*◌, ◌<◌, List, ℤ, pos, arith, ap, sym, ◌∙◌}
use Rattle.std.proofs.Math.IntN.{◌*ℤ◌, ◌-ℤ◌, *ℤ-zero, +ℤ_invr}
use Rattle.adjust_kernel.specs.TurnedObservations.{TurnedObservation}
use Rattle.adjust_kernel.specs.Residuals.{Choice, residual, unrolled, target_sum, set_sum}
use Rattle.std.proofs.lemmas.Int.{ints}
use Rattle.sheet_means.proofs.Products.{over_difference, three_factors}
use Rattle.sheet_means.specs.Totals.{target_total, set_total, whole_total}
use Rattle.sheet_means.specs.Means.{AreMeans}
use Rattle.sheet_means.proofs.GridLaws.{sum_below, sum_below-same, sum_below-sub, sum_below-scale}
use Rattle.sheet_means.proofs.GridLaws.{sum_below-const, AreGrid, at, sum_of_target, sum_of_set}
use Rattle.sheet_means.proofs.GridLaws.{whole_by_sets, whole_less}

-- What is left over of a target, and of a set.
target_left : (s t : ℕ) (c f g : ℤ) → pos s *ℤ (pos t *ℤ (c -ℤ f)) -ℤ (pos s *ℤ g -ℤ pos s *ℤ g
    -ℤ pos s *ℤ (pos t *ℤ f)) -ℤ pos (s * t) *ℤ c ≡ pos 0
target_left s t c f g =
    let a = ap (λ z. pos s *ℤ z) (over_difference (pos t) c f) in
    let b = over_difference (pos s) (pos t *ℤ c) (pos t *ℤ f) in
    let d = three_factors s t c in
    omega (arith, ints)

set_left : (s t : ℕ) (y f g : ℤ) → pos t *ℤ (g -ℤ pos t *ℤ f) -ℤ pos t *ℤ (g -ℤ pos s *ℤ y
    -ℤ pos t *ℤ f) -ℤ pos (s * t) *ℤ y ≡ pos 0
set_left s t y f g =
    let a = over_difference (pos t) g (pos t *ℤ f) in
    let b = over_difference (pos t) (g -ℤ pos s *ℤ y) (pos t *ℤ f) in
    let d = over_difference (pos t) g (pos s *ℤ y) in
    let e = three_factors t s y in
    omega (arith, ints)

module _ (sets targets : ℕ) (observations : List TurnedObservation)
    (grid : AreGrid sets targets observations)
    (c : Choice) (means : AreMeans sets targets observations c) (some : 0 < targets) where
  abbrev x : ℕ → ℕ → ℤ
  x s t = unrolled (at sets targets observations grid s t)

  abbrev G : ℤ
  G = whole_total observations

  abbrev F : ℤ
  F = target_total observations 0

  orientations_sum : sum_below sets c.orientation
      ≡ pos sets *ℤ G -ℤ pos sets *ℤ G -ℤ pos sets *ℤ (pos targets *ℤ F)
  orientations_sum =
      sum_below-same sets c.orientation (λ s. G -ℤ pos sets *ℤ set_total observations s
      -ℤ pos targets *ℤ F) means.orientations
      ∙ sum_below-sub sets (λ s. G -ℤ pos sets *ℤ set_total observations s) (λ s. pos targets *ℤ F)
      ∙ (λ i. sum_below-sub sets (λ s. G) (λ s. pos sets *ℤ set_total observations s) i
      -ℤ sum_below-const sets (pos targets *ℤ F) i)
      ∙ (λ i. sum_below-const sets G i -ℤ (sum_below-scale sets (pos sets)
      (λ s. set_total observations s) ∙ ap (λ z. pos sets *ℤ z)
      (sym (whole_by_sets sets targets observations grid))) i -ℤ pos sets *ℤ (pos targets *ℤ F))

  directions_sum : sum_below targets c.direction ≡ pos targets *ℤ (G -ℤ pos targets *ℤ F)
  directions_sum =
      sum_below-same targets c.direction (λ t. pos targets *ℤ (target_total observations t
      -ℤ F)) means.directions
      ∙ sum_below-scale targets (pos targets) (λ t. target_total observations t -ℤ F)
      ∙ ap (λ z. pos targets *ℤ z) (whole_less sets targets observations grid F)

  residual_at : (s t : ℕ) → s < sets → t < targets
      → residual c (at sets targets observations grid s t)
      ≡ c.direction t -ℤ c.orientation s -ℤ pos (sets * targets) *ℤ x s t
  residual_at s t h k = let p = grid.at_place s t h k in
      λ i. c.direction (p.1 i) -ℤ c.orientation (p.0 i) -ℤ pos (means.denominator i) *ℤ x s t

  -- With the means, the residuals of each target add up to 0.
  pub target_sums_vanish : (t : ℕ) → t < targets → target_sum c observations t ≡ pos 0
  target_sums_vanish t h =
      sum_of_target sets targets observations grid (residual c) t h
      ∙ sum_below-same sets (λ s. residual c (at sets targets observations grid s t))
      (λ s. c.direction t -ℤ c.orientation s -ℤ pos (sets * targets) *ℤ x s t)
      (λ s k. residual_at s t k h)
      ∙ sum_below-sub sets (λ s. c.direction t -ℤ c.orientation s)
      (λ s. pos (sets * targets) *ℤ x s t)
      ∙ (λ i. (sum_below-sub sets (λ s. c.direction t) c.orientation
      ∙ (λ j. sum_below-const sets (c.direction t) j -ℤ orientations_sum j)) i
      -ℤ (sum_below-scale sets (pos (sets * targets)) (λ s. x s t)
      ∙ ap (λ z. pos (sets * targets) *ℤ z)
      (sym (sum_of_target sets targets observations grid unrolled t h))) i)
      ∙ ap (λ z. pos sets *ℤ z -ℤ (pos sets *ℤ G -ℤ pos sets *ℤ G
      -ℤ pos sets *ℤ (pos targets *ℤ F)) -ℤ pos (sets * targets) *ℤ target_total observations t)
      (means.directions t h)
      ∙ target_left sets targets (target_total observations t) F G

  -- So do those of each set.
  pub set_sums_vanish : (s : ℕ) → s < sets → set_sum c observations s ≡ pos 0
  set_sums_vanish s h =
      sum_of_set sets targets observations grid (residual c) s h
      ∙ sum_below-same targets (λ t. residual c (at sets targets observations grid s t))
      (λ t. c.direction t -ℤ c.orientation s -ℤ pos (sets * targets) *ℤ x s t)
      (λ t k. residual_at s t h k)
      ∙ sum_below-sub targets (λ t. c.direction t -ℤ c.orientation s)
      (λ t. pos (sets * targets) *ℤ x s t)
      ∙ (λ i. (sum_below-sub targets c.direction (λ t. c.orientation s)
      ∙ (λ j. directions_sum j -ℤ sum_below-const targets (c.orientation s) j)) i
      -ℤ (sum_below-scale targets (pos (sets * targets)) (λ t. x s t)
      ∙ ap (λ z. pos (sets * targets) *ℤ z)
      (sym (sum_of_set sets targets observations grid unrolled s h))) i)
      ∙ ap (λ z. pos targets *ℤ (G -ℤ pos targets *ℤ F) -ℤ pos targets *ℤ z
      -ℤ pos (sets * targets) *ℤ set_total observations s) (means.orientations s h)
      ∙ set_left sets targets (set_total observations s) F G

  -- The first target has the direction 0.
  pub first_direction : c.direction 0 ≡ pos 0
  first_direction = means.directions 0 some ∙ ap (λ z. pos targets *ℤ z) (+ℤ_invr F)
      ∙ *ℤ-zero (pos targets)
