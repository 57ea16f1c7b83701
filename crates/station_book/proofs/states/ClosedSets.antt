-- What is kept of a station makes a station of the kernel once its last set is closed.
use Rattle.std.proofs.Common.{◌≡◌, ℕ, zero, suc, ◌+◌, ◌<◌, ◌≤◌, false, ◌&&◌, ◌||◌, List, [], ◌∷◌}
use Rattle.std.proofs.Common.{◌++◌, length, get_or, All, Any, AllPairs, Option, Some, None, is_some}
use Rattle.std.proofs.Common.{is_none, inl, inr, ◌⊎◌, refl, sym, ◌∙◌, subst, arith}
use Rattle.std.specs.List.{list_any, list_all, enumerate_from, filter_map, cons_option}
use Rattle.std.proofs.lemmas.Bool.{cases_Bool, cases_lt, or_parts}
use Rattle.std.proofs.lemmas.List.Elements.{All-cons, All-append, All-weaker}
use Rattle.adjust_kernel.specs.declared.obs.Obs.{Obs}
use Rattle.adjust_kernel.specs.Stations.{IsObs, IsBefore, AreObs}
use Rattle.station_book.specs.TwoFaces.{Angles}
use Rattle.station_book.specs.declared.slot.Slot.{Slot}
use Rattle.station_book.specs.Pairs.{direction}
use Rattle.station_book.specs.Slots.{observation_of, obs_at, obs_of, is_unread, is_single, slot_at}
use Rattle.station_book.specs.SoFar.{AreSoFar}
use Rattle.station_book.proofs.lists.JoinedLists.{pairs_cons, pairs_append, any_left, any_right}
use Rattle.station_book.proofs.lists.JoinedLists.{any_head, any_tail, any_weaker}

-- an observation of this set and of one of the targets from `low` up to `high`
record IsOf (set low high : ℕ) (o : Obs) : Type 0 where
  pub of_set : o.set ≡ set
  pub from : low ≤ o.target
  pub below : o.target < high
  pub value : o.value < 80_000_000

abbrev observed : ℕ → ℕ → List Slot → List Obs
observed set m slots = filter_map (obs_at set) (enumerate_from m slots)

direction_below : (a b : Angles) → direction a b < 80_000_000
direction_below a b = omega arith

from_lower : (set m top : ℕ) (os : List Obs) → All (IsOf set (m + 1) top) os
    → All (IsOf set m top) os
from_lower set m top os all = All-weaker (IsOf set (m + 1) top) (IsOf set m top) (λ o h. record {
  of_set = h.of_set;
  from = omega (arith, h.from);
  below = h.below;
  value = h.value;
}) os all

cons_of : (set m top : ℕ) (a b : Option Angles) (rest : List Obs) → m + 1 ≤ top
    → All (IsOf set (m + 1) top) rest
    → All (IsOf set m top) (cons_option (observation_of set m a b) rest)
cons_of set m top (Some a) (Some b) rest le all =
    All-cons (IsOf set m top) (record { set = set; target = m; value = direction a b }) rest
    (record {
      of_set = refl;
      from = omega arith;
      below = omega arith;
      value = direction_below a b;
    }) (from_lower set m top rest all)
cons_of set m top a b rest le all = from_lower set m top rest all

-- what the slots give is of their set and targets
all_of : (set m top : ℕ) (slots : List Slot) → m + length slots ≡ top
    → All (IsOf set m top) (observed set m slots)
all_of set m top [] e = λ k d lt. absurd (omega arith)
all_of set m top (s ∷ slots) e = cons_of set m top s.one s.two (observed set (m + 1) slots)
    (omega arith) (all_of set (m + 1) top slots (omega arith))

cons_pairs : (set m top : ℕ) (a b : Option Angles) (rest : List Obs)
    → All (IsOf set (m + 1) top) rest → AllPairs IsBefore rest
    → AllPairs IsBefore (cons_option (observation_of set m a b) rest)
cons_pairs set m top (Some a) (Some b) rest all pairs =
    let o : Obs = record { set = set; target = m; value = direction a b } in
    pairs_cons IsBefore o rest
    (All-weaker (IsOf set (m + 1) top) (IsBefore o)
    (λ p h. inr (sym h.of_set, (let f = h.from in omega (arith, f)))) rest all) pairs
cons_pairs set m top a b rest all pairs = pairs

-- in the order of the targets
in_order : (set m top : ℕ) (slots : List Slot) → m + length slots ≡ top
    → AllPairs IsBefore (observed set m slots)
in_order set m top [] e = λ i j d lt inside. absurd (omega arith)
in_order set m top (s ∷ slots) e = cons_pairs set m top s.one s.two
    (observed set (m + 1) slots) (all_of set (m + 1) top slots (omega arith))
    (in_order set (m + 1) top slots (omega arith))

any_cons : (P : Obs → Type 0) (o : Option Obs) (rest : List Obs) → Any P rest
    → Any P (cons_option o rest)
any_cons P None rest h = h
any_cons P (Some o) rest h = any_tail P o rest h

-- the place of this set and target
record IsAt (set target : ℕ) (o : Obs) : Type 0 where
  pub of_set : o.set ≡ set
  pub of_target : o.target ≡ target

both_read : (set m : ℕ) (a b : Option Angles) (rest : List Obs) → (is_none a && is_none b) ≡ false
    → ((is_some a && is_none b) || (is_none a && is_some b)) ≡ false
    → Any (IsAt set m) (cons_option (observation_of set m a b) rest)
both_read set m (Some a) (Some b) rest e f = any_head (IsAt set m)
    (record { set = set; target = m; value = direction a b }) rest
    (record { of_set = refl; of_target = refl })
both_read set m None None rest e f = cc
both_read set m a b rest e f = cc

-- where no target has one face alone, a target that was read is observed
read_is_observed : (set m t : ℕ) (slots : List Slot) → t < length slots
    → is_unread (slot_at slots t) ≡ false → list_any is_single slots ≡ false
    → Any (IsAt set (m + t)) (observed set m slots)
read_is_observed set m t [] lt e f = absurd (omega arith)
read_is_observed set m zero (s ∷ slots) lt e f =
    let n : m ≡ m + 0 = omega arith in
    subst (λ (k : ℕ). Any (IsAt set k) (observed set m (s ∷ slots))) n
    (both_read set m s.one s.two (observed set (m + 1) slots) e
    (or_parts (is_single s) (list_any is_single slots) f).0)
read_is_observed set m (suc t) (s ∷ slots) lt e f =
    let n : (m + 1) + t ≡ m + suc t = omega arith in
    subst (λ (k : ℕ). Any (IsAt set k) (observed set m (s ∷ slots))) n
    (any_cons (IsAt set ((m + 1) + t)) (observation_of set m s.one s.two)
    (observed set (m + 1) slots)
    (read_is_observed set (m + 1) t slots (omega arith) e
    (or_parts (is_single s) (list_any is_single slots) f).1))

-- not all are unread: one was read
some_read : (slots : List Slot) → list_all is_unread slots ≡ false
    → (t : ℕ) × (t < length slots) × (is_unread (slot_at slots t) ≡ false)
some_read [] e = cc
some_read (s ∷ slots) e = elim (cases_Bool (is_unread s)) [
  | inr f ↦ (0, omega arith, f)
  | inl f ↦ let r = some_read slots (rw f at e) in
      (suc r.0, (let lt = r.1 in omega (arith, lt)), r.2)
]

-- the observations of the sets up to this one
pub closes : (n : ℕ) (slots : List Slot) (obs : List Obs) → AreSoFar n slots obs
    → list_all is_unread slots ≡ false → list_any is_single slots ≡ false
    → AreObs (n + 1) (length slots) (obs ++ obs_of n slots)
closes n slots obs h some faces = record {
  within = All-append (IsObs (n + 1) (length slots)) obs (obs_of n slots)
      (All-weaker (IsObs n (length slots)) (IsObs (n + 1) (length slots))
      (λ o k. record {
        set = (let s = k.set in omega (arith, s));
        target = k.target;
        value = k.value;
      }) obs h.within)
      (All-weaker (IsOf n 0 (length slots)) (IsObs (n + 1) (length slots))
      (λ o k. record {
        set = (let s = k.of_set in omega (arith, s));
        target = k.below;
        value = k.value;
      }) (obs_of n slots) news);
  ordered = pairs_append IsBefore obs (obs_of n slots) h.ordered
      (in_order n 0 (length slots) slots (omega arith))
      (λ i d lt. All-weaker (IsOf n 0 (length slots)) (IsBefore (get_or obs i d))
      (λ o k. inl (let s = k.of_set in let b = (h.within i d lt).set in omega (arith, s, b)))
      (obs_of n slots) news);
  each_set = λ s lt. by_set s (cases s lt);
  each_target = λ t lt. by_target t lt (h.each_target t lt);
} where
  news : All (IsOf n 0 (length slots)) (obs_of n slots)
  news = all_of n 0 (length slots) slots (omega arith)

  cases : (s : ℕ) → s < n + 1 → (s < n) ⊎ (s ≡ n)
  cases s lt = elim (cases_lt s n) [ inl l ↦ inl l | inr l ↦ inr (omega arith) ]

  by_set : (s : ℕ) → (s < n) ⊎ (s ≡ n) → Any (λ o. o.set ≡ s) (obs ++ obs_of n slots)
  by_set s (inl lt) = any_left (λ o. o.set ≡ s) obs (obs_of n slots) (h.each_set s lt)
  by_set s (inr e) =
      let r = some_read slots some in
      any_right (λ o. o.set ≡ s) obs (obs_of n slots)
      (any_weaker (IsAt n (0 + r.0)) (λ o. o.set ≡ s) (λ o k. k.of_set ∙ sym e) (obs_of n slots)
      (read_is_observed n 0 r.0 slots r.1 r.2 faces))

  by_target : (t : ℕ) → t < length slots
      → Any (λ o. o.target ≡ t) obs ⊎ (is_unread (slot_at slots t) ≡ false)
      → Any (λ o. o.target ≡ t) (obs ++ obs_of n slots)
  by_target t lt (inl a) = any_left (λ o. o.target ≡ t) obs (obs_of n slots) a
  by_target t lt (inr e) = any_right (λ o. o.target ≡ t) obs (obs_of n slots)
      (any_weaker (IsAt n (0 + t)) (λ o. o.target ≡ t)
      (λ o k. (let q = k.of_target in omega (arith, q))) (obs_of n slots)
      (read_is_observed n 0 t slots lt e faces))
