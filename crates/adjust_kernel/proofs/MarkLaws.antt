-- Marks that spread along the observations.
use Rattle.std.proofs.Common.{◌≡◌, ◌⊎◌, inl, inr, ℕ, ◌+◌, ◌-◌, ◌<◌, ◌≤◌, Bool, true, false, not}
use Rattle.std.proofs.Common.{◌||◌, cond, List, [], ◌∷◌, length, set, take, get_or, All, replicate}
use Rattle.std.proofs.Common.{refl, ⊎_elim, add-zero, below_more, arith, ap, sym, subst, ◌∙◌}
use Rattle.std.specs.List.{AllByRecursion, count_by}
use Rattle.std.specs.Bool.{OnTrue, OnFalse}
use Rattle.std.proofs.lemmas.Bool.{or_right}
use Rattle.std.proofs.lemmas.Bool.Decides.{nat_tests}
use Rattle.std.proofs.lemmas.List.Elements.{All-from_recursion, recursion_from_All, All-more}
use Rattle.std.proofs.lemmas.List.Sums.{sum_by-set}
use Rattle.std.proofs.lemmas.List.{get_or-set_same, get_or-set_other, length-set, length-replicate}
use Rattle.std.proofs.lemmas.List.{get_or-replicate, get_or_past, get_or_default}
use native.Mathlib.Decide.{ℕ_discrete, dec_lt}
use Rattle.adjust_kernel.specs.declared.obs.Obs.{Obs}
use Rattle.adjust_kernel.specs.declared.row.Row.{Row}
use Rattle.adjust_kernel.specs.Connected.{IsDivided, HasMember}
use Rattle.adjust_kernel.specs.Marks.{AreAlike, IsOpenEnd, MarksSpread, mark, part_of}
use Rattle.adjust_kernel.specs.Pairs.{turned_by_rows}
use Rattle.adjust_kernel.specs.TurnedObservations.{TurnedObservation}
use Rattle.adjust_kernel.specs.Stations.{IsObs, EachSetObserved, EachTargetObserved}
use Rattle.adjust_kernel.proofs.ReachLaws.{AllWithin}

-- What follows from what holds where a test passed holds there too.
pub on_true : {P Q : Type 0} (b : Bool) → (P → Q) → OnTrue b P → OnTrue b Q
on_true true f p = f p
on_true false f p = p

-- What follows from what holds where a test failed holds there too.
pub on_false : {P Q : Type 0} (b : Bool) → (P → Q) → OnFalse b P → OnFalse b Q
on_false true f p = p
on_false false f p = f p

-- No observation stands between the two parts.
abbrev AllObsWithin : (ℕ → Bool) → (ℕ → Bool) → List Obs → Type 0
AllObsWithin part_of_set part_of_target obs =
    AllByRecursion (λ o. part_of_set o.set ≡ part_of_target o.target) obs

-- Full turns make no difference to the parts.
obs_within : (p q : ℕ → Bool) (obs : List Obs) (rows : List Row) → length rows ≡ length obs
    → AllWithin p q (turned_by_rows obs rows) → AllObsWithin p q obs
obs_within p q [] rows e w = tt
obs_within p q (o ∷ obs) [] e w = cc
obs_within p q (o ∷ obs) (r ∷ rows) e w = (w.0, obs_within p q obs rows (omega (arith, e)) w.1)

observations_within : (p q : ℕ → Bool) (obs : List Obs) (rows : List Row) → AllObsWithin p q obs
    → AllWithin p q (turned_by_rows obs rows)
observations_within p q [] rows w = tt
observations_within p q (o ∷ obs) [] w = tt
observations_within p q (o ∷ obs) (r ∷ rows) w = (w.0, observations_within p q obs rows w.1)

set_node : (sets s : ℕ) (p q : ℕ → Bool) → s < sets → part_of sets p q s ≡ p s
set_node sets s p q h = grind (arith, nat_tests)

target_node : (sets t : ℕ) (p q : ℕ → Bool) → part_of sets p q (sets + t) ≡ q t
target_node sets t p q = grind (arith, nat_tests)

mark_after : (marks : List Bool) (n k : ℕ) → n < length marks → mark (set marks n true) k ≡ true
    → (k ≡ n) ⊎ (mark marks k ≡ true)
mark_after marks n k h e = elim (ℕ_discrete k n) [
  | yes p ↦ inl p
  | no f ↦ inr (sym (get_or-set_other marks n k true false f) ∙ e)
]

-- A mark is kept where another is set.
mark_kept : (marks : List Bool) (n k : ℕ) → n < length marks → mark marks k ≡ true
    → mark (set marks n true) k ≡ true
mark_kept marks n k h e = elim (ℕ_discrete k n) [
  | yes p ↦ ap (mark (set marks n true)) p ∙ get_or-set_same marks n true false h
  | no f ↦ get_or-set_other marks n k true false f ∙ e
]

-- And where two are.
both_kept : (marks : List Bool) (a b k : ℕ) → a < length marks → b < length (set marks a true)
    → mark marks k ≡ true → mark (set (set marks a true) b true) k ≡ true
both_kept marks a b k h j e = mark_kept (set marks a true) b k j (mark_kept marks a k h e)

-- One mark more is one unmarked node fewer.
one_fewer_unmarked : (marks : List Bool) (n : ℕ) → n < length marks → mark marks n ≡ false
    → count_by not (set marks n true) < count_by not marks
one_fewer_unmarked marks n h e =
    let s = sum_by-set (λ b. cond (not b) 1 0) marks n true false h in
    omega (arith, rw e at s)

-- No node is marked at first.
none_marked : (k : ℕ) → mark (replicate 140 false) k ≡ true → ⊥
none_marked k e = elim (dec_lt k 140) [
  | yes l ↦ cc (get_or-replicate 140 k false false l)
  | no n ↦ cc (get_or_past (replicate 140 false) k false
      (let g = length-replicate {A = Bool} 140 false in omega arith))
]

module _ (sets targets : ℕ) (obs : List Obs) where
  -- The first observations of a sweep are done.
  pub record IsSwept (before marks : List Bool) (any : Bool) (n : ℕ) : Type 0 where
    pub spread : MarksSpread sets targets obs before → MarksSpread sets targets obs marks
    pub at_most : count_by not marks ≤ count_by not before
    pub fewer : OnTrue any (count_by not marks < count_by not before)
    pub alike : OnFalse any (All (AreAlike marks sets) (take n obs))

  -- Before its first observation a sweep has marked nothing.
  pub none_swept : (marks : List Bool) → IsSwept marks marks false 0
  none_swept marks = record {
    spread = λ s. s;
    at_most = omega arith;
    fewer = tt;
    alike = λ k d h. absurd (omega arith);
  }

  -- The set and the target of an observation are marked.
  abbrev Sees : List Bool → Obs → Type 0
  Sees marks o = (mark marks o.set ≡ true) × (mark marks (sets + o.target) ≡ true)

  -- The marks of the first observations' sets and targets.
  pub record AreSeen (marks : List Bool) (n : ℕ) : Type 0 where
    pub long : length marks ≡ 140
    pub marked : (i : ℕ) → i < n → (d : Obs) → Sees marks (get_or obs i d)
    pub only : (k : ℕ) → mark marks k ≡ true → (i : ℕ) × (o : Obs) × (i < length obs)
        × (get_or obs i o ≡ o) × ((o.set ≡ k) ⊎ (sets + o.target ≡ k))

  -- Before any observation none of the 140 places is marked.
  pub none_seen : AreSeen (replicate 140 false) 0
  none_seen = record {
    long = length-replicate 140 false;
    marked = λ i h d. absurd (omega arith);
    only = λ k e. absurd (none_marked k e);
  }

module _ (sets targets : ℕ) (obs : List Obs) (placed : All (IsObs sets targets) obs) where
  -- A mark that is carried along an observation stays in the part of the first target.
  spread_one : (marks : List Bool) (i : ℕ) (d : Obs) → i < length obs → (n : ℕ)
      → IsOpenEnd marks sets (get_or obs i d) n → MarksSpread sets targets obs marks
      → MarksSpread sets targets obs (set marks n true)
  spread_one marks i d inside n open_end s = record {
    first = mark_kept marks n sets open_end.inside s.first;
    long = length-set marks n true ∙ s.long;
    one_part = λ p q u k e. ⊎_elim (λ j. ap (part_of sets p q) j ∙ new_part p q u)
        (λ j. s.one_part p q u k j) (mark_after marks n k open_end.inside e);
  }
    where
      new_part : (p q : ℕ → Bool) → All (λ o. p o.set ≡ q o.target) obs → part_of sets p q n ≡ q 0
      new_part p q u =
          let r = get_or obs i d in
          let same : p r.set ≡ q r.target = u i d inside in
          let at : IsObs sets targets r = placed i d inside in
          let set_is : part_of sets p q r.set ≡ p r.set = set_node sets r.set p q at.set in
          let target_is : part_of sets p q (sets + r.target) ≡ q r.target =
          target_node sets r.target p q in
          ⊎_elim
          (λ j. ap (part_of sets p q) j.0 ∙ set_is ∙ same ∙ sym target_is
          ∙ s.one_part p q u (sets + r.target) j.1)
          (λ j. ap (part_of sets p q) j.0 ∙ target_is ∙ sym same ∙ sym set_is
          ∙ s.one_part p q u r.set j.1)
          open_end.joined

  -- A sweep with one observation more has carried a mark along it, or left the marks as they were.
  pub swept_more : (before marks new : List Bool) (any carried : Bool) (i : ℕ) (d : Obs)
      → i < length obs
      → OnTrue carried ((n : ℕ) × IsOpenEnd marks sets (get_or obs i d) n
      × (new ≡ set marks n true))
      → OnFalse carried ((new ≡ marks) × AreAlike marks sets (get_or obs i d))
      → IsSwept sets targets obs before marks any i
      → IsSwept sets targets obs before new (any || carried) (i + 1)
  swept_more before marks new any true i d inside (n, open_end, e) f w =
      let less : count_by not new < count_by not marks =
      rw e (one_fewer_unmarked marks n open_end.inside open_end.unmarked) in
      let fewer : count_by not new < count_by not before = omega (arith, less, w.at_most) in
      record {
        spread = λ s. rw e (spread_one marks i d inside n open_end (w.spread s));
        at_most = omega (arith, fewer);
        fewer = rw (or_right any true refl) fewer;
        alike = rw (or_right any true refl) tt;
      }
  swept_more before marks new true false i d inside t (e, alike) w = record {
    spread = λ s. rw e (w.spread s);
    at_most = rw e w.at_most;
    fewer = rw e w.fewer;
    alike = tt;
  }
  swept_more before marks new false false i d inside t (e, alike) w = record {
    spread = λ s. rw e (w.spread s);
    at_most = rw e w.at_most;
    fewer = tt;
    alike = rw e (All-more (AreAlike marks sets) obs i d inside w.alike alike);
  }

  -- With both marks of an observation, what was seen before still is, and so is that observation.
  seen_at : (marks : List Bool) (i : ℕ) (o : Obs) → i < length obs
      → ((d : Obs) → get_or obs i d ≡ o) → o.set < length marks
      → sets + o.target < length (set marks o.set true)
      → AreSeen sets targets obs marks i → AreSeen sets targets obs
      (set (set marks o.set true) (sets + o.target) true) (i + 1)
  seen_at marks i o inside at set_in target_in s =
      let one = set marks o.set true in
      let sees = Sees sets targets obs (set one (sets + o.target) true) in
      let kept = λ (k : ℕ). both_kept marks o.set (sets + o.target) k set_in target_in in
      record {
        long = length-set one (sets + o.target) true ∙ length-set marks o.set true ∙ s.long;
        marked = below_more (λ k. (d : Obs) → sees (get_or obs k d)) i
            (λ k below d. let m = s.marked k below d in (kept _ m.0, kept _ m.1))
            (λ d. subst sees (sym (at d)) (
              mark_kept one (sets + o.target) o.set target_in
                  (get_or-set_same marks o.set true false set_in),
              get_or-set_same one (sets + o.target) true false target_in,
            ));
        only = λ k e. ⊎_elim
            (λ f. (i, o, inside, at o, inr (sym f)))
            (λ f. ⊎_elim (λ g. (i, o, inside, at o, inl (sym g))) (λ g. s.only k g)
            (mark_after marks o.set k set_in f))
            (mark_after one (sets + o.target) k target_in e);
      }

  -- With the marks of its set and target, one more observation is seen.
  pub seen_more : (marks : List Bool) (i : ℕ) (d : Obs) → i < length obs → sets + targets ≤ 140
      → AreSeen sets targets obs marks i
      → AreSeen sets targets obs (set (set marks (get_or obs i d).set true)
      (sets + (get_or obs i d).target) true) (i + 1)
  seen_more marks i d inside few s =
      let p = placed i d inside in
      let o = get_or obs i d in
      let set_in : o.set < length marks = omega (arith, s.long, few, p.set) in
      let target_in : sets + o.target < length (set marks o.set true) =
      omega (arith, s.long, few, p.target, length-set marks o.set true) in
      seen_at marks i o inside (λ d2. get_or_default obs i d2 d inside) set_in target_in s

  -- Where all nodes are marked, each set and target was observed.
  pub each_observed : (marks : List Bool) → AreSeen sets targets obs marks (length obs)
      → ((n : ℕ) → n < sets + targets → mark marks n ≡ true) → EachSetObserved sets obs
      × EachTargetObserved targets obs
  each_observed marks s all = (
    λ k h. let (i, o, inside, at, ends) = s.only k (all k (omega arith)) in
        (i, o, inside, at, ⊎_elim (λ e. e) (λ e. absurd (omega arith)) ends),
    λ t h. let (i, o, inside, at, ends) = s.only (sets + t) (all (sets + t) (omega arith)) in
        let p = subst (IsObs sets targets) at (placed i o inside) in
        let a = p.set in
        (i, o, inside, at, ⊎_elim (λ e. absurd (omega arith)) (λ e. omega arith) ends),
  )

  -- Where one of the sets and targets is not marked, not each of them was observed.
  pub some_unobserved : (marks : List Bool) → AreSeen sets targets obs marks (length obs) → (n : ℕ)
      → n < sets + targets → mark marks n ≡ false → EachSetObserved sets obs
      × EachTargetObserved targets obs → ⊥
  some_unobserved marks s n h e (of_sets, of_targets) = elim (dec_lt n sets) [
    | yes l ↦ let (i, o, inside, at, is) = of_sets n l in
        cc (e, at, is, (s.marked i inside o).0)
    | no f ↦
        let (i, o, inside, at, is) = of_targets (n - sets) (omega arith) in
        let there : sets + (n - sets) ≡ n = omega arith in
        cc (e, at, is, there, (s.marked i inside o).1)
  ]

-- At first only the first target is marked.
pub spread_start : (sets targets : ℕ) (obs : List Obs) → sets < 140
    → MarksSpread sets targets obs (set (replicate 140 false) sets true)
spread_start sets targets obs h = record {
  first = get_or-set_same (replicate 140 false) sets true false long;
  long = length-set (replicate 140 false) sets true ∙ length-replicate 140 false;
  one_part = λ p q u k e. ⊎_elim
      (λ j. ap (part_of sets p q) j ∙ ap (part_of sets p q) (sym (add-zero sets))
      ∙ target_node sets 0 p q)
      (λ j. absurd (none_marked k j))
      (mark_after (replicate 140 false) sets k long e);
}
  where
    long : sets < length (replicate 140 false)
    long = let e = length-replicate 140 false in omega arith

-- Where all are marked, no division is left.
pub marked_is_whole : (sets targets : ℕ) (obs : List Obs) (marks : List Bool)
    → MarksSpread sets targets obs marks → ((n : ℕ) → n < sets + targets → mark marks n ≡ true)
    → (rows : List Row) → length rows ≡ length obs
    → IsDivided sets targets (turned_by_rows obs rows)
    → ⊥
marked_is_whole sets targets obs marks s all rows same_length d =
    let u = All-from_recursion (λ (o : Obs). d.part_of_set o.set ≡ d.part_of_target o.target) obs
    (obs_within d.part_of_set d.part_of_target obs rows same_length
    (recursion_from_All (λ (r : TurnedObservation). d.part_of_set r.set ≡ d.part_of_target r.target)
    (turned_by_rows obs rows) d.none_between)) in
    let at : (b : Bool) → HasMember sets targets d.part_of_set d.part_of_target b
    → b ≡ d.part_of_target 0 = λ b n. ⊎_elim
    (λ m. sym m.2 ∙ sym (set_node sets m.0 d.part_of_set d.part_of_target m.1)
    ∙ s.one_part d.part_of_set d.part_of_target u m.0 (all m.0 (omega (arith, m.1))))
    (λ m. sym m.2 ∙ sym (target_node sets m.0 d.part_of_set d.part_of_target)
    ∙ s.one_part d.part_of_set d.part_of_target u (sets + m.0)
    (all (sets + m.0) (omega (arith, m.1))))
    n in
    let e : true ≡ false = at true d.first_part ∙ sym (at false d.second_part) in
    cc

-- Where no observation has an open end, the first target is marked and a node isn't, the marks
-- divide.
pub marks_divide : (sets targets : ℕ) (obs : List Obs) (marks : List Bool) → 0 < targets
    → MarksSpread sets targets obs marks → All (AreAlike marks sets) obs
    → (n : ℕ) → n < sets + targets → mark marks n ≡ false → (rows : List Row)
    → IsDivided sets targets (turned_by_rows obs rows)
marks_divide sets targets obs marks some s alike n h e rows = record {
  part_of_set = mark marks;
  part_of_target = λ t. mark marks (sets + t);
  none_between = All-from_recursion (λ (r : TurnedObservation). mark marks r.set
      ≡ mark marks (sets + r.target)) (turned_by_rows obs rows)
      (observations_within (mark marks) (λ t. mark marks (sets + t)) obs rows
      (recursion_from_All (AreAlike marks sets) obs alike));
  first_part = inr (0, some, ap (mark marks) (add-zero sets) ∙ s.first);
  second_part = elim (dec_lt n sets) [
    | yes l ↦ inl (n, l, e)
    | no f ↦
        let there : sets + (n - sets) ≡ n = omega arith in
        inr (n - sets, omega arith, ap (mark marks) there ∙ e)
  ];
}
