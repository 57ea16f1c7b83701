-- Marks on what has an angle, as they are kept in one list: first the sets, then the targets.
use Rattle.std.proofs.Common.{◌≡◌, ℕ, zero, suc, ◌+◌, ◌-◌, ◌<◌, ◌≤◌, Bool, true, false, List, length}
use Rattle.std.proofs.Common.{set, replicate, ℤ, pos, arith, below_more, refl, sym, ◌∙◌, ap, subst}
use Rattle.std.proofs.Common.{◌==◌, ◌||◌}
use Rattle.std.proofs.lemmas.Bool.Decides.{nat_tests}
use Rattle.std.proofs.lemmas.List.{get_or-set_same, get_or-set_other, get_or-replicate, length-set}
use Rattle.adjust_kernel.specs.Marks.{mark}
use Rattle.adjust_kernel.specs.Residuals.{Choice, residual}
use Rattle.adjust_kernel.specs.Stations.{IsObs, IsStation, StationValue}
use Rattle.adjust_kernel.specs.declared.marks.TheConstants.{MOST_NODES}
use Rattle.exact_adjustment.specs.Carrying.{AgreesIfItCarries, AreMarked, MarksAlong}
use Rattle.exact_adjustment.specs.Nearest.{AgreeWhereCarried, AreReached, Carries, obs_of}
use Rattle.exact_adjustment.specs.Nearest.{place_of, reached, steps_of}
use Rattle.exact_adjustment.proofs.ObservedLaws.{agrees, nothing_seen, place_inside, seen_at}
use Rattle.exact_adjustment.proofs.ObservedLaws.{turned_at}
use native.Mathlib.Decide.{dec_le, dec_lt}

-- Before this step all observations that carried agree exactly with the angles.
pub record IsCarriedTo (station : StationValue) (turns : List ℤ) (angles : Choice)
    (marks : List Bool) (step : ℕ) : Type 0 where
  pub marked : AreMarked (length station.sets) (length station.targets) marks (reached station step)
  pub carried : (n : ℕ) → n < step → Carries station n
      → residual angles (turned_at station turns (place_of station n)) ≡ pos 0

pub start_marked : (station : StationValue) → IsStation station
    → AreMarked (length station.sets) (length station.targets)
    (set (replicate MOST_NODES false) (length station.sets) true) (reached station zero)
start_marked station is =
    record {
      long = length-set none sets true;
      of_sets = λ s h. get_or-set_other none sets s true false (λ e. omega arith)
          ∙ get_or-replicate MOST_NODES s false false (omega (arith, is.sets.few));
      of_targets = target;
    }
  where
    none : List Bool
    none = replicate MOST_NODES false

    sets : ℕ
    sets = length station.sets

    target : (t : ℕ) → t < length station.targets → mark (set none sets true) (sets + t) ≡ (t == 0)
    target zero h = ap (λ n. mark (set none sets true) n) (omega arith)
        ∙ get_or-set_same none sets true false (omega (arith, is.sets.few))
    target (suc t) h =
        let e : (suc t == 0) ≡ false = grind (arith, nat_tests) in
        get_or-set_other none sets (sets + suc t) true false (λ f. omega arith)
        ∙ get_or-replicate MOST_NODES (sets + suc t) false false
        (omega (arith, is.sets.few, is.targets.few)) ∙ sym e

-- What has an angle keeps it.
or_true : (x y : Bool) → x ≡ true → (x || y) ≡ true
or_true true y e = refl
or_true false y e = absurd cc

module _ (station : StationValue) (is_station : IsStation station) (turns : List ℤ)
    (angles : Choice) (each : length turns ≡ length station.obs) (marks : List Bool) (step : ℕ)
    (to : IsCarriedTo station turns angles marks step) where
  -- The ends of the observation of this step.
  inside : IsObs (length station.sets) (length station.targets) (obs_of station step)
  inside = is_station.obs.within (place_of station step)
      (record { set = 0; target = 0; value = 0 }) (place_inside station is_station step)

  set_marked : mark marks (obs_of station step).set
      ≡ (reached station step).of_set (obs_of station step).set
  set_marked = to.marked.of_sets (obs_of station step).set inside.set

  target_marked : mark marks (length station.sets + (obs_of station step).target)
      ≡ (reached station step).of_target (obs_of station step).target
  target_marked = to.marked.of_targets (obs_of station step).target inside.target

  -- The observation of this step agrees, if it carries.
  abbrev pub AgreesHere : Type 0
  AgreesHere = AgreesIfItCarries (length station.sets) marks angles
      (turned_at station turns (place_of station step))

  -- One more step.
  pub one_step_more : (new : List Bool)
      → MarksAlong (length station.sets) (length station.targets) marks new (obs_of station step)
      → AgreesHere → IsCarriedTo station turns angles new (step + 1)
  one_step_more new along here = record {
    marked = let e : suc step ≡ step + 1 = omega arith in
        rw (← e) (along (reached station step) to.marked);
    carried = below_more (λ n. Carries station n
        → residual angles (turned_at station turns (place_of station n)) ≡ pos 0) step to.carried
        (λ carries. here (λ e. carries (sym set_marked ∙ e ∙ target_marked)));
  }

  -- Where all that carry agree, that of this step does.
  pub agrees_here : AgreeWhereCarried station turns angles → AgreesHere
  agrees_here all differ = agrees station turns each is_station angles all step
      (λ e. differ (set_marked ∙ e ∙ sym target_marked))

  -- After the last step marks stand where an angle is.
  pub all_marked : step ≡ steps_of station → AreReached station → (n : ℕ)
      → n < length station.sets + length station.targets → mark marks n ≡ true
  all_marked last all n h = by (dec_lt n (length station.sets))
    where
      by : Dec (n < length station.sets) → mark marks n ≡ true
      by (yes l) = to.marked.of_sets n l ∙ rw (← last) at (all.sets n l)
      by (no f) =
          let m = n - length station.sets in
          let l : m < length station.targets = omega (arith, h, f) in
          let e : length station.sets + m ≡ n = omega (arith, f) in
          subst (λ k. mark marks k ≡ true) e
          (to.marked.of_targets m l ∙ rw (← last) at (all.targets m l))

  module _ (all : (n : ℕ) → n < length station.sets + length station.targets
      → mark marks n ≡ true) where
    abbrev AllReached : ℕ → Type 0
    AllReached n = ((s : ℕ) → s < length station.sets → (reached station n).of_set s ≡ true)
        × ((t : ℕ) → t < length station.targets → (reached station n).of_target t ≡ true)

    -- Where all are marked, all are reached.
    here : AllReached step
    here = (
      λ s h. sym (to.marked.of_sets s h) ∙ all s (omega (arith, h)),
      λ t h. sym (to.marked.of_targets t h) ∙ all (length station.sets + t) (omega (arith, h)),
    )

    -- And stay so.
    stay : (n : ℕ) → step ≤ n → AllReached n
    stay zero h = let e : step ≡ 0 = omega arith in subst AllReached e here
    stay (suc n) h = by (dec_le step n) (stay n)
      where
        by : Dec (step ≤ n) → (step ≤ n → AllReached n) → AllReached (suc n)
        by (yes l) before = (
          λ s i. or_true _ _ ((before l).0 s i),
          λ t i. or_true _ _ ((before l).1 t i),
        )
        by (no f) before = let e : step ≡ suc n = omega arith in subst AllReached e here

    -- So they are after the last step.
    pub all_reached : step ≤ steps_of station → AreReached station
    all_reached l =
        let r = stay (steps_of station) l in record { sets = r.0; targets = r.1 }

    -- Then nothing carries any more, and all that carried agree.
    pub all_agree : AgreeWhereCarried station turns angles
    all_agree n carries = ap (residual angles) (seen_at station turns each (place_of station n)
        nothing_seen (place_inside station is_station n)) ∙ by (dec_lt n step)
      where
        by : Dec (n < step)
            → residual angles (turned_at station turns (place_of station n)) ≡ pos 0
        by (yes l) = to.carried n l carries
        by (no f) =
            let o = is_station.obs.within (place_of station n)
            (record { set = 0; target = 0; value = 0 }) (place_inside station is_station n) in
            let r = stay n (omega (arith, f)) in
            absurd (carries (r.0 (obs_of station n).set o.set
            ∙ sym (r.1 (obs_of station n).target o.target)))
