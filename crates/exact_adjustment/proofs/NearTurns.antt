-- Full turns that are nearest to what is carried differ from others by whole turns of targets and
-- of sets alone, where some choice with the others stays close: along the observations that carry,
-- at most 139 of them, it goes apart by its limit each, which leaves less than one turn.
use Rattle.std.proofs.Common.{◌≡◌, inl, inr, ℕ, zero, suc, ◌+◌, ◌-◌, ◌*◌, ◌≤◌, ◌<◌, Bool, true}
use Rattle.std.proofs.Common.{false, List, [], ◌∷◌, length, get_or, ℤ, pos, ◌+ℤ◌, arith, ap, sym}
use Rattle.std.proofs.Common.{◌∙◌, subst}
use Rattle.std.proofs.Math.Bool.{Bool-discrete}
use Rattle.std.proofs.Math.IntN.{◌*ℤ◌, ◌-ℤ◌}
use Rattle.std.proofs.Math.Nat.{mul-le-mul_right}
use Rattle.std.specs.List.{AllByRecursion}
use Rattle.std.proofs.lemmas.Bool.Decides.{nat_tests}
use Rattle.std.proofs.lemmas.Int.{ints}
use Rattle.std.proofs.lemmas.List.Elements.{recursion_from_All}
use Rattle.adjust_kernel.specs.declared.bounds.TheConstants.{TURN}
use Rattle.adjust_kernel.specs.declared.obs.Obs.{Obs}
use Rattle.adjust_kernel.specs.Connected.{HasMember, IsDivided}
use Rattle.adjust_kernel.specs.Residuals.{Choice, residual}
use Rattle.adjust_kernel.specs.Stations.{StationValue, IsStation}
use Rattle.adjust_kernel.specs.TurnedObservations.{TurnedObservation}
use Rattle.adjust_kernel.specs.Within.{IsWithin}
use Rattle.adjust_kernel.proofs.FirstLaws.{dec_not}
use Rattle.adjust_kernel.proofs.NearLaws.{AllAreNear, all_near}
use Rattle.adjust_kernel.proofs.ObservationLaws.{IsPlaced}
use Rattle.exact_adjustment.specs.Nearest.{Carries, HasNearestTurns, Reached, after, obs_of}
use Rattle.exact_adjustment.specs.Nearest.{place_of, reached, steps_of}
use Rattle.exact_adjustment.proofs.ObservedLaws.{agrees, obs_at, place_inside, turned_at}
use Rattle.exact_adjustment.proofs.Products.{none_of, products}
use native.Mathlib.Decide.{dec_lt}

-- A number for each place below a count, as they are known one by one.
pub chosen : (P : ℕ → ℤ → Type 0) (count : ℕ) → ((n : ℕ) → n < count → (k : ℤ) × P n k)
    → (f : ℕ → ℤ) × ((n : ℕ) → n < count → P n (f n))
chosen P count known = (λ n. pick n (dec_lt n count), λ n h. is n h (dec_lt n count))
  where
    pick : (n : ℕ) → Dec (n < count) → ℤ
    pick n (yes h) = (known n h).0
    pick n (no f) = pos 0

    is : (n : ℕ) → n < count → (d : Dec (n < count)) → P n (pick n d)
    is n h (yes l) = (known n l).1
    is n h (no f) = absurd (f h)

-- Turns that are less than one beside those of the two ends are none.
whole_turns : (j limit most e : ℕ) (t s o k k' mt ms : ℤ) → j ≤ 139 → 278 * limit + most < TURN
    → 1 ≤ e → IsWithin (pos (j * (limit * e))) (t -ℤ o -ℤ pos (e * TURN) *ℤ mt)
    → IsWithin (pos (j * (limit * e))) (s -ℤ o -ℤ pos (e * TURN) *ℤ ms)
    → IsWithin (pos (most * e)) (t -ℤ s -ℤ pos (e * TURN) *ℤ (k' -ℤ k)) → k' ≡ k +ℤ mt -ℤ ms
whole_turns j limit most e t s o k k' mt ms few small some a b c =
    let f = mul-le-mul_right (limit * e) few in
    let l = mul-le-mul_right e small in
    let d = simp products at c in
    let z : k' -ℤ k -ℤ mt +ℤ ms ≡ pos 0 =
    none_of (e * TURN) _ (simp products (omega (arith, ints))) (simp products (omega (arith, ints)))
    in
    omega (arith, ints, z)

-- All sets and targets with an angle lie in this part.
abbrev LieIn : (ℕ → Bool) → (ℕ → Bool) → Bool → Reached → Type 0
LieIn p q part r = ((s : ℕ) → r.of_set s ≡ true → p s ≡ part)
    × ((t : ℕ) → r.of_target t ≡ true → q t ≡ part)

-- So they do one observation further, if that stands between no parts where it carries.
one_further : (p q : ℕ → Bool) (part : Bool) (o : Obs) (r : Reached)
    → ((r.of_set o.set ≡ r.of_target o.target → ⊥) → p o.set ≡ q o.target)
    → LieIn p q part r → LieIn p q part (after o r)
one_further p q part o r f h = (λ s e. grind (arith, nat_tests), λ t e. grind (arith, nat_tests))

-- These turns are those but for whole turns of targets and of sets.
pub record TurnedBy (station : StationValue) (ks ls : List ℤ) : Type 0 where
  pub of_target : ℕ → ℤ
  pub of_set : ℕ → ℤ
  pub each : (n : ℕ) → n < length station.obs → get_or ls n (pos 0)
      ≡ get_or ks n (pos 0) +ℤ of_target (obs_at station n).target -ℤ of_set (obs_at station n).set

module _ (station : StationValue) (is_station : IsStation station) (ks ls : List ℤ)
    (each : length ks ≡ length station.obs) (near : HasNearestTurns station ks) (c : Choice)
    (some : 1 ≤ c.denominator) (limit most : ℕ) (small : 278 * limit + most < TURN)
    (carried : (step : ℕ) → Carries station step → IsWithin (pos (limit * c.denominator))
    (residual c (turned_at station ls (place_of station step))))
    (close : (n : ℕ) → n < length station.obs → IsWithin (pos (most * c.denominator))
    (residual c (turned_at station ls n)
    -ℤ pos c.denominator *ℤ residual near.angles (turned_at station ks n))) where
  abbrev sets : ℕ
  sets = length station.sets

  abbrev targets : ℕ
  targets = length station.targets

  -- How far a direction and an orientation are from the angles.
  abbrev direction : ℕ → ℤ
  direction t = c.direction t -ℤ pos c.denominator *ℤ near.angles.direction t

  abbrev orientation : ℕ → ℤ
  orientation s = c.orientation s -ℤ pos c.denominator *ℤ near.angles.orientation s

  -- The observation at a place, with the difference of its turns.
  abbrev joint : ℕ → TurnedObservation
  joint n = record (turned_at station ls n) { turn = get_or ls n (pos 0) -ℤ get_or ks n (pos 0) }

  -- What a residual is more than by the angles: what its ends are, less what its turns are.
  change : (n : ℕ) → residual c (turned_at station ls n)
      -ℤ pos c.denominator *ℤ residual near.angles (turned_at station ks n)
      ≡ direction (joint n).target -ℤ orientation (joint n).set
      -ℤ pos (c.denominator * TURN) *ℤ (joint n).turn
  change n = rw near.whole (simp products (omega (arith, ints)))

  -- The ends of an observation that carries are within the limit of whole turns.
  abbrev IsGiven : TurnedObservation → Type 0
  IsGiven r = IsPlaced sets targets r × IsWithin (pos (limit * c.denominator))
      (direction r.target -ℤ orientation r.set -ℤ pos (c.denominator * TURN) *ℤ r.turn)

  given : (step : ℕ) → Carries station step → IsGiven (joint (place_of station step))
  given step h =
      let n = place_of station step in
      let o = is_station.obs.within n (record { set = 0; target = 0; value = 0 })
      (place_inside station is_station step) in
      let z : pos c.denominator *ℤ residual near.angles (turned_at station ks n) ≡ pos 0 =
      ap (λ y. pos c.denominator *ℤ y)
      (agrees station ks each is_station near.angles near.nearest.carried step h) ∙ omega (arith, ints) in
      let w = carried step h in
      (record { set_in = o.set; target_in = o.target }, omega (arith, ints, change n, z, w))

  abbrev kept_if : {P : Type 0} → Dec P → TurnedObservation → List TurnedObservation
      → List TurnedObservation
  kept_if (yes h) r rs = r ∷ rs
  kept_if (no f) r rs = rs

  does_carry : (step : ℕ) → Dec (Carries station step)
  does_carry step = dec_not (Bool-discrete ((reached station step).of_set (obs_of station step).set)
      ((reached station step).of_target (obs_of station step).target))

  -- The observations that carry, of the steps before one.
  abbrev carriers : ℕ → List TurnedObservation
  carriers zero = []
  carriers (suc step) =
      kept_if (does_carry step) (joint (place_of station step)) (carriers step)

  all_given : (steps : ℕ) → AllByRecursion IsGiven (carriers steps)
  all_given zero = tt
  all_given (suc step) = by (does_carry step) (all_given step)
    where
      by : (d : Dec (Carries station step)) → AllByRecursion IsGiven (carriers step)
          → AllByRecursion IsGiven (kept_if d (joint (place_of station step)) (carriers step))
      by (yes h) before = (given step h, before)
      by (no f) before = before

  -- Where none of them stands between two parts, all with an angle lie in one.
  in_part : (p q : ℕ → Bool) (steps : ℕ)
      → AllByRecursion (λ r. p r.set ≡ q r.target) (carriers steps)
      → LieIn p q (q 0) (reached station steps)
  in_part p q zero h = (λ s e. absurd cc, λ t e. let f : t ≡ 0 = grind (arith, nat_tests) in ap q f)
  in_part p q (suc step) h = by (does_carry step) h (in_part p q step)
    where
      by : (d : Dec (Carries station step)) → AllByRecursion (λ r. p r.set ≡ q r.target)
          (kept_if d (joint (place_of station step)) (carriers step))
          → (AllByRecursion (λ r. p r.set ≡ q r.target) (carriers step)
          → LieIn p q (q 0) (reached station step)) → LieIn p q (q 0) (reached station (suc step))
      by (yes c) g before = one_further p q (q 0) (obs_of station step) (reached station step)
          (λ f. g.0) (before g.1)
      by (no f) g before = one_further p q (q 0) (obs_of station step) (reached station step)
          (λ c. absurd (f c)) (before g)

  not_divided : IsDivided sets targets (carriers (steps_of station)) → ⊥
  not_divided d =
      let e = in_one true d.first_part in let f = in_one false d.second_part in cc
    where
      all : LieIn d.part_of_set d.part_of_target (d.part_of_target 0)
          (reached station (steps_of station))
      all = in_part d.part_of_set d.part_of_target (steps_of station)
          (recursion_from_All (λ r. d.part_of_set r.set ≡ d.part_of_target r.target)
          (carriers (steps_of station)) d.none_between)

      in_one : (b : Bool) → HasMember sets targets d.part_of_set d.part_of_target b
          → d.part_of_target 0 ≡ b
      in_one b (inl (s, h, e)) = sym (all.0 s (near.nearest.reached.sets s h)) ∙ e
      in_one b (inr (t, h, e)) = sym (all.1 t (near.nearest.reached.targets t h)) ∙ e

  all_are_near : AllAreNear sets targets (c.denominator * TURN) (limit * c.denominator) direction
      orientation (sets + targets - 1)
  all_are_near = all_near sets targets (c.denominator * TURN) (limit * c.denominator) direction
      orientation (carriers (steps_of station)) is_station.targets.some
      (all_given (steps_of station)) not_divided

  abbrev IsClose : ℤ → ℤ → Type 0
  IsClose z k = IsWithin (pos ((sets + targets - 1) * (limit * c.denominator)))
      (z -ℤ direction 0 -ℤ pos (c.denominator * TURN) *ℤ k)

  of_targets : (f : ℕ → ℤ) × ((t : ℕ) → t < targets → IsClose (direction t) (f t))
  of_targets = chosen (λ t k. IsClose (direction t) k) targets
      (λ t h. let n = all_are_near.targets_near t h in (n.turns, n.close))

  of_sets : (f : ℕ → ℤ) × ((s : ℕ) → s < sets → IsClose (orientation s) (f s))
  of_sets = chosen (λ s k. IsClose (orientation s) k) sets
      (λ s h. let n = all_are_near.sets_near s h in (n.turns, n.close))

  pub turned_whole : TurnedBy station ks ls
  turned_whole = record {
    of_target = of_targets.0;
    of_set = of_sets.0;
    each = λ n h.
        let o = is_station.obs.within n (record { set = 0; target = 0; value = 0 }) h in
        let one = obs_at station n in
        whole_turns (sets + targets - 1) limit most c.denominator (direction one.target)
        (orientation one.set) (direction 0) (get_or ks n (pos 0)) (get_or ls n (pos 0))
        (of_targets.0 one.target) (of_sets.0 one.set)
        (omega (arith, is_station.sets.few, is_station.targets.few)) small some
        (of_targets.1 one.target o.target) (of_sets.1 one.set o.set)
        (subst (IsWithin (pos (most * c.denominator))) (change n) (close n h));
  }
