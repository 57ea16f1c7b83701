-- What has all sums of residuals 0, with turns that are those of an exact adjustment but for whole
-- turns of targets and of sets, has the same residuals.
use Rattle.std.proofs.Common.{◌≡◌, ℕ, ◌*◌, ◌≤◌, ◌<◌, ◌==◌, if◌then◌else◌, List, [], ◌∷◌, map}
use Rattle.std.proofs.Common.{length, Bool, ℤ, pos, ◌+ℤ◌, arith, ap, refl, sym, ◌∙◌}
use Rattle.std.proofs.Math.IntN.{◌*ℤ◌, ◌-ℤ◌}
use Rattle.std.specs.List.{AllByRecursion}
use Rattle.std.proofs.lemmas.Int.{ints}
use Rattle.std.proofs.lemmas.List.{ext_get_or, get_or-map, length-map}
use Rattle.std.proofs.lemmas.List.Elements.{All-weaker, recursion_from_All}
use Rattle.adjust_kernel.specs.declared.bounds.TheConstants.{TURN}
use Rattle.adjust_kernel.specs.Least.{DiffersByRotation}
use Rattle.adjust_kernel.specs.Residuals.{Choice, residual}
use Rattle.adjust_kernel.specs.Stations.{StationValue, IsStation}
use Rattle.adjust_kernel.specs.Sums.{int_sum_where}
use Rattle.adjust_kernel.specs.TurnedObservations.{TurnedObservation}
use Rattle.adjust_kernel.specs.Turns.{with_turns}
use Rattle.adjust_kernel.proofs.BalanceLaws.{IsBalanced, all_vanish}
use Rattle.adjust_kernel.proofs.LeastLaws.{balanced_is_least}
use Rattle.adjust_kernel.proofs.ObservationLaws.{IsPlaced}
use Rattle.adjust_kernel.proofs.TurnLaws.{taken}
use Rattle.exact_adjustment.specs.Adjustments.{AdjustmentValue, choice_by}
use Rattle.exact_adjustment.specs.Exact.{AddsUp, IsExact, observed_by}
use Rattle.exact_adjustment.specs.LeastOf.{AreTied, observed_with}
use Rattle.exact_adjustment.proofs.ObservedLaws.{nothing_seen, obs_at, seen_at, turned_at}
use Rattle.exact_adjustment.proofs.ExactLaws.{adjusted, again, count, placed}
use Rattle.exact_adjustment.proofs.NearTurns.{TurnedBy}
use Rattle.exact_adjustment.proofs.Products.{products}

-- Directions and orientations of two choices differ by this rotation.
pub record AreRotated (station : StationValue) (c other : Choice) (rotation : ℤ) : Type 0 where
  pub directions : (t : ℕ) → t < length station.targets
      → pos other.denominator *ℤ c.direction t -ℤ pos c.denominator *ℤ other.direction t
      ≡ rotation
  pub orientations : (s : ℕ) → s < length station.sets
      → pos other.denominator *ℤ c.orientation s -ℤ pos c.denominator *ℤ other.orientation s
      ≡ rotation

-- Then the residuals are the same but for the denominators.
pub rotated_residual : (station : StationValue) (a : AdjustmentValue) → IsStation station
    → (c : Choice) (ls : List ℤ) (t : TurnedBy station a.turns ls) (rotation : ℤ)
    → AreRotated station (choice_by a) (taken c t.of_target t.of_set) rotation → (n : ℕ)
    → n < length station.obs
    → pos c.denominator *ℤ residual (choice_by a) (turned_at station a.turns n)
    ≡ pos a.denominator *ℤ residual c (turned_at station ls n)
rotated_residual station a is_station c ls t rotation are n inside =
    let o = obs_at station n in
    let within = is_station.obs.within n (record { set = 0; target = 0; value = 0 }) inside in
    let f = simp products at (are.directions o.target within.target) in
    let g = simp products at (are.orientations o.set within.set) in
    let k = simp products at (ap (λ z. pos (a.denominator * (c.denominator * TURN)) *ℤ z)
    (t.each n inside)) in
    simp products (omega (arith, ints))

module _ (station : StationValue) (a : AdjustmentValue) (is_station : IsStation station)
    (tied : AreTied station) (exact : IsExact station a) (c : Choice) (ls : List ℤ)
    (each : length ls ≡ length station.obs) (some : 1 ≤ c.denominator)
    (sums : AddsUp station c ls) (t : TurnedBy station a.turns ls) where
  abbrev rs : List TurnedObservation
  rs = observed_by station a

  abbrev other : Choice
  other = taken c t.of_target t.of_set

  abbrev with_whole : TurnedObservation → ℤ
  with_whole r = r.turn +ℤ t.of_target r.target -ℤ t.of_set r.set

  residual_taken : (r : TurnedObservation)
      → residual other r ≡ residual c (record r { turn = with_whole r })
  residual_taken r = simp products (omega (arith, ints))

  turns_are : ls ≡ map with_whole rs
  turns_are =
      let many = count station a is_station tied exact in
      ext_get_or (pos 0) ls (map with_whole rs) (each ∙ sym (length-map rs with_whole ∙ many))
      (λ n h. let inside : n < length station.obs = omega (arith, h, each) in
      t.each n inside ∙ sym (get_or-map with_whole rs n nothing_seen (pos 0)
      (omega (arith, inside, many))
      ∙ ap with_whole (seen_at station a.turns exact.each n nothing_seen inside)))

  -- Sums of residuals are the same, of some sets and targets.
  sum_taken : (p : ℕ → ℕ → Bool) (xs : List TurnedObservation)
      → int_sum_where (λ r. p r.set r.target) (residual other) xs
      ≡ int_sum_where (λ r. p r.set r.target) (residual c) (with_turns xs (map with_whole xs))
  sum_taken p [] = refl
  sum_taken p (r ∷ xs) = λ i. (if p r.set r.target then residual_taken r i else pos 0)
      +ℤ sum_taken p xs i

  sum_is : (p : ℕ → ℕ → Bool)
      → int_sum_where (λ r. p r.set r.target) (residual other) rs
      ≡ int_sum_where (λ r. p r.set r.target) (residual c) (observed_with station ls)
  sum_is p = sum_taken p rs
      ∙ ap (int_sum_where (λ (r : TurnedObservation). p r.set r.target) (residual c))
      (ap (with_turns rs) (sym turns_are) ∙ again station a is_station tied exact ls)

  below : (key : TurnedObservation → ℕ) (n : ℕ)
      → ((r : TurnedObservation) → IsPlaced (length station.sets) (length station.targets) r
      → key r < n) → AllByRecursion (λ r. key r < n) rs
  below key n f = recursion_from_All (λ r. key r < n) rs
      (All-weaker (IsPlaced (length station.sets) (length station.targets)) (λ r. key r < n) f rs
      (placed (length station.sets) (length station.targets) station.obs a.turns
      is_station.obs.within))

  balanced : IsBalanced other rs
  balanced = record {
    targets = all_vanish (λ (r : TurnedObservation). r.target) (residual other)
        (length station.targets) rs
        (below (λ r. r.target) (length station.targets) (λ r p. p.target_in))
        (λ n h. sum_is (λ s m. m == n) ∙ sums.target_sums n h);
    sets = all_vanish (λ (r : TurnedObservation). r.set) (residual other) (length station.sets) rs
        (below (λ r. r.set) (length station.sets) (λ r p. p.set_in))
        (λ n h. sum_is (λ s m. s == n) ∙ sums.set_sums n h);
  }

  differs : DiffersByRotation (length station.sets) (length station.targets) (choice_by a) other
  differs =
      let low = (adjusted station a is_station tied exact).least other some in
      let high = balanced_is_least other rs balanced (choice_by a) exact.rules.positive in
      (adjusted station a is_station tied exact).unique other some (omega (arith, ints, low, high))

  -- But for the denominators.
  pub same_residual : (n : ℕ) → n < length station.obs
      → pos c.denominator *ℤ residual (choice_by a) (turned_at station a.turns n)
      ≡ pos a.denominator *ℤ residual c (turned_at station ls n)
  same_residual = rotated_residual station a is_station c ls t differs.rotation
      (record { directions = differs.directions; orientations = differs.orientations })
