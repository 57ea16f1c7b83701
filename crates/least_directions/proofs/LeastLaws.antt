-- What is said of the directions of an exact adjustment is said of every least choice.
use Rattle.std.proofs.Common.{◌≡◌, ℕ, zero, suc, ◌+◌, ◌*◌, ◌%◌, ◌≤◌, ◌<◌, List, [], ◌∷◌, All, length}
use Rattle.std.proofs.Common.{get_or, ℤ, pos, arith, refl, subst}
use Rattle.std.proofs.Math.IntN.{◌*ℤ◌, ◌-ℤ◌}
use Rattle.std.proofs.lemmas.Int.{ints}
use Rattle.std.proofs.lemmas.List.{ext_get_or, get_or_default, get_or_past}
use native.Mathlib.Decide.{dec_le}
use Rattle.adjust_kernel.specs.Residuals.{Choice}
use Rattle.adjust_kernel.specs.Stations.{StationValue, IsStation}
use Rattle.adjust_kernel.specs.declared.bounds.TheConstants.{LARGEST_RESIDUAL_LIMIT}
use Rattle.exact_adjustment.proofs.Products.{products}
use Rattle.directions_apart.proofs.ApartLaws.{AreTurned, as_far_apart, as_near, one_apart}
use Rattle.directions_apart.proofs.LeastLaws.{are_turned, first_is_0}
use Rattle.directions_apart.proofs.RoundingLaws.{as_rounded, one_rounded, rounded_near}
use Rattle.directions_apart.proofs.RoundingLaws.{rounded_of_0}
use Rattle.directions_apart.specs.Apart.{AreBroughtNear, IsApart}
use Rattle.directions_apart.specs.Rounding.{IsRounded, from_first}
use Rattle.adjust_kernel.specs.declared.units.TheConstants.{CIRCLE}
use Rattle.exact_adjustment.proofs.ExactLaws.{is_least}
use Rattle.exact_adjustment.specs.Adjustments.{AdjustmentValue, choice_by}
use Rattle.exact_adjustment.specs.Exact.{IsExact, KeepsLimit}
use Rattle.exact_adjustment.specs.LeastOf.{AreTied, IsLeastOf}
use Rattle.least_directions.specs.LeastDirections.{AreApart, AreRounded, IsAdjustable, as_stated}

module _ (station : StationValue) (s : IsStation station) (a : AdjustmentValue)
    (tied : AreTied station) (exact : IsExact station a)
    (limited : KeepsLimit station a LARGEST_RESIDUAL_LIMIT) where
  adjustable : IsAdjustable station
  adjustable = record { rules = s; tied = tied; adjustment = a; exact = exact; limited = limited }

  -- What is apart from an exact adjustment is so from the least-squares directions.
  pub are_apart : (stated : ℕ → ℤ) (off apart : ℕ)
      → IsApart (length station.targets) (choice_by a) stated off apart
      → AreApart station stated off apart
  are_apart stated off apart is = record {
    adjustable = adjustable;
    from_each = λ c turns least. as_far_apart (length station.targets) (choice_by a) c stated off apart
        exact.rules.positive least.positive
        (are_turned station a s tied exact limited c turns least) is;
  }

  -- Its directions rounded are the least-squares directions rounded.
  pub are_rounded : (step : ℕ) (directions : List ℕ) → 1 ≤ step
      → length directions ≡ length station.targets
      → ((t : ℕ) → t < length directions → IsRounded (choice_by a) t step (get_or directions t 0))
      → AreRounded station step directions
  are_rounded step directions some count each = record {
    adjustable = adjustable;
    count = count;
    each = λ t inside c turns least. as_rounded (length station.targets) (choice_by a) c t step
        (get_or directions t 0) exact.rules.positive least.positive some inside
        (are_turned station a s tied exact limited c turns least) (first_is_0 a exact.rules)
        (each t (omega (arith, inside, count)));
  }

-- Where a station is adjustable, its adjustment is least.
pub least_of : (station : StationValue) (a : IsAdjustable station)
    → IsLeastOf station (choice_by a.adjustment) a.adjustment.turns
least_of station a = is_least station a.adjustment a.rules a.tied a.exact a.limited

-- How far directions are apart is one number.
pub one_distance : (station : StationValue) (stated : ℕ → ℤ) (off a b : ℕ)
    → AreApart station stated off a → AreApart station stated off b → a ≡ b
one_distance station stated off a b p q =
    let least = least_of station p.adjustable in
    let c = choice_by p.adjustable.adjustment in
    let turns = p.adjustable.adjustment.turns in
    one_apart (length station.targets) c stated off a b (p.from_each c turns least)
    (q.from_each c turns least)

-- Rounded directions are one list.
pub one_list : (station : StationValue) (step : ℕ) (a b : List ℕ) → 1 ≤ step
    → CIRCLE % step ≡ 0 → AreRounded station step a → AreRounded station step b → a ≡ b
one_list station step a b some whole p q =
    let least = least_of station p.adjustable in
    let c = choice_by p.adjustable.adjustment in
    let turns = p.adjustable.adjustment.turns in
    let count = p.count in
    ext_get_or 0 a b (omega (arith, q.count)) (λ t inside. one_rounded (from_first c) t step
    (get_or a t 0) (get_or b t 0) least.positive some whole (p.each t (omega arith) c turns least)
    (q.each t (omega arith) c turns least))

-- Directions counted from the first are the same but for one rotation.
from_first_turned : (targets : ℕ) (c : Choice) → AreTurned targets (from_first c) c
from_first_turned targets c = record {
  turns = λ t. pos 0;
  rotation = pos 0 -ℤ pos c.denominator *ℤ c.direction 0;
  directions = λ t h. simp products (omega (arith, ints));
}

as_stated_at : (directions : List ℕ) (t : ℕ) → pos (81 * get_or directions t 0)
    ≡ as_stated directions t
as_stated_at [] t = refl
as_stated_at (d ∷ directions) zero = refl
as_stated_at (d ∷ directions) (suc t) = as_stated_at directions t

-- Rounded directions as stated, target by target.
as_stated_is : (directions : List ℕ) → (λ t. pos (81 * get_or directions t 0))
    ≡ as_stated directions
as_stated_is directions = λ i. λ t. as_stated_at directions t i

-- Rounded directions are near every least choice.
pub rounded_is_near : (station : StationValue) (step : ℕ) (directions : List ℕ) (c : Choice)
    (turns : List ℤ) → AreRounded station step directions → IsLeastOf station c turns
    → AreBroughtNear (length station.targets) c (as_stated directions) (81 * step)
rounded_is_near station step directions c turns r least =
    subst (λ stated. AreBroughtNear (length station.targets) c stated (81 * step))
    (as_stated_is directions)
    (as_near (length station.targets) (from_first c) c (λ t. pos (81 * get_or directions t 0))
    (81 * step)
    least.positive (from_first_turned (length station.targets) c)
    (rounded_near (length station.targets) step (from_first c) (λ t. get_or directions t 0)
    (λ t inside. r.each t inside c turns least)))

-- And apart by half a step at most, and what numbers are off.
pub rounded_is_apart : (station : StationValue) (step off most apart : ℕ) (directions : List ℕ)
    → AreRounded station step directions → 81 * step + 2 * off ≤ 162_000 * most
    → AreApart station (as_stated directions) off apart → apart ≤ most
rounded_is_apart station step off most apart directions r small is =
    let a = r.adjustable.adjustment in
    let least = least_of station r.adjustable in
    let none : most < apart → ⊥ = λ h. (is.from_each (choice_by a) a.turns least).no_nearer most h
    (record {
      near = 81 * step;
      brought = rounded_is_near station step directions (choice_by a) a.turns r least;
      counted = small;
    }) in
    omega (arith, none)

-- Rounded directions of an adjustment are whole steps on the circle, and the first is 0.
pub each_whole : (a : AdjustmentValue) (step : ℕ) (directions : List ℕ)
    → ((t : ℕ) → t < length directions → IsRounded (choice_by a) t step (get_or directions t 0))
    → All (λ d. (d < CIRCLE) × (d % step ≡ 0)) directions
each_whole a step directions each = λ t other h.
    let r = each t h in
    rw (get_or_default directions t other 0 h) (r.below, r.whole)

pub first_rounded : (station : StationValue) (a : AdjustmentValue) (step : ℕ) (directions : List ℕ)
    → IsExact station a → 1 ≤ step → CIRCLE % step ≡ 0
    → ((t : ℕ) → t < length directions → IsRounded (choice_by a) t step (get_or directions t 0))
    → get_or directions 0 0 ≡ 0
first_rounded station a step directions exact some whole each = by (dec_le 1 (length directions))
  where
    by : Dec (1 ≤ length directions) → get_or directions 0 0 ≡ 0
    by (yes h) = rounded_of_0 (choice_by a) 0 step (get_or directions 0 0) exact.rules.positive
        some whole (first_is_0 a exact.rules) (each 0 h)
    by (no h) = get_or_past directions 0 0 (omega (arith, h))
