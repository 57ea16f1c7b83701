-- Observations in order, by set and within a set by target.
use Rattle.std.proofs.Common.{◌≡◌, ◌∙◌, ℕ, suc, ◌<◌, ◌≤◌, Bool, List, length, Some, None, arith, get_or}
use Rattle.std.proofs.Common.{true, false, AllPairs, map, refl, subst, sym}
use Rattle.std.proofs.lemmas.Bool.{eq-eqb, le-ltb, lt-ltb}
use Rattle.std.proofs.lemmas.Bool.Decides.{nat_tests}
use Rattle.std.proofs.lemmas.List.{get_or-map}
use Rattle.std.proofs.lemmas.List.Sums.{position_or_len_is}
use Rattle.std.specs.List.{position, position_or_len}
use Rattle.std.specs.Prelude.{nat_lt, ◌==◌}
use Rattle.std.specs.List.Sorted.{IsPartitionedBy}
use native.Mathlib.Decide.{dec_le}
use Rattle.adjust_kernel.specs.Stations.{IsBefore}
use Rattle.adjust_kernel.specs.declared.obs.Obs.{Obs}
use Rattle.station_report.specs.Fronts.{IsFront, stands_before}
use Rattle.station_report.specs.Readings.{is_of}

-- What stands before one that stands before a set and a target stands before these too.
before_first : (set target : ℕ) (a b : Obs) → IsBefore a b → stands_before set target b ≡ true
    → stands_before set target a ≡ true
before_first set target a b h e = grind (arith, nat_tests)

-- None that stands before is of them.
pub before_other : (set target : ℕ) (o : Obs) → stands_before set target o ≡ true
    → is_of set target o ≡ false
before_other set target o e = grind (arith, nat_tests)

-- Nor is one that stands after one that does not.
after_other : (set target : ℕ) (a b : Obs) → IsBefore a b → stands_before set target a ≡ false
    → is_of set target b ≡ false
after_other set target a b h e = grind (arith, nat_tests)

-- None that stands before the first target of a set is of that set.
not_before : (set target : ℕ) (o : Obs) → target ≡ 0 → stands_before set target o ≡ true
    → (o.set == set) ≡ false
not_before set target o none e = grind (arith, nat_tests)

-- One that does not, and before one of the set, is of the set.
same_set : (set target : ℕ) (a b : Obs) → IsBefore a b → b.set ≡ set
    → stands_before set target a ≡ false → (a.set == set) ≡ true
same_set set target a b h is e = grind (arith, nat_tests)

module _ (obs : List Obs) (set target : ℕ) (ordered : AllPairs IsBefore obs) where
  pub parted : IsPartitionedBy (stands_before set target) obs
  parted i j d le less e = by (dec_le (suc i) j)
    where
      by : Dec (suc i ≤ j) → stands_before set target (get_or obs i d) ≡ true
      by (yes y) = before_first set target (get_or obs i d) (get_or obs j d)
          (ordered i j d (omega (arith, y)) less) e
      by (no n) =
          let same : j ≡ i = omega (arith, le, n) in
          subst (λ k. stands_before set target (get_or obs k d) ≡ true) same e

  -- The first of a key that none before the front has is the one at the front.
  pub at_front : (key : Obs → Bool) (place : ℕ) (d : Obs) → IsFront obs set target place
      → ((o : Obs) → stands_before set target o ≡ true → key o ≡ false)
      → place < length obs → key (get_or obs place d) ≡ true → position key obs ≡ Some place
  at_front key place d front other inside is =
      let at : position_or_len key obs ≡ place = position_or_len_is key obs place d front.inside
      (λ k less. other (get_or obs k d) (front.before k d (omega arith) less)) (λ i. is) in
      let below : nat_lt place (length obs) ≡ true = lt-ltb place (length obs) inside in
      rw (at, below) refl

  -- Where another stands there, or none, there is none.
  pub not_found : (place : ℕ) (d : Obs) → IsFront obs set target place
      → (place < length obs → is_of set target (get_or obs place d) ≡ false)
      → position (is_of set target) obs ≡ None
  not_found place d front other =
      let at : position_or_len (is_of set target) obs ≡ length obs =
      position_or_len_is (is_of set target) obs (length obs) d (omega arith)
      (λ k less. none k less (dec_le (suc k) place) (dec_le (suc place) k))
      (λ less. absurd (omega (arith, less))) in
      let past : nat_lt (length obs) (length obs) ≡ false =
      le-ltb (length obs) (length obs) (omega arith) in
      rw (at, past) refl
    where
      none : (k : ℕ) → k < length obs → Dec (suc k ≤ place) → Dec (suc place ≤ k)
          → is_of set target (get_or obs k d) ≡ false
      none k inside (yes y) q =
          before_other set target (get_or obs k d) (front.before k d (omega arith) (omega (arith, y)))
      none k inside (no n) (yes y) = after_other set target (get_or obs place d) (get_or obs k d)
          (ordered place k d (omega (arith, y)) inside)
          (front.from place d (omega arith) (omega (arith, y, inside)))
      none k inside (no n) (no m) =
          let same : place ≡ k = omega (arith, n, m) in
          subst (λ i. is_of set target (get_or obs i d) ≡ false) same
          (other (omega (arith, same, inside)))

  -- The first of the set of an observation is at the front.
  pub first_of_set : (place front : ℕ) → place < length obs → target ≡ 0
      → set ≡ get_or (map (λ (o : Obs). o.set) obs) place 0 → IsFront obs set target front
      → (front < length obs)
      × (position (λ (o : Obs). o.set == get_or (map (λ (o : Obs). o.set) obs) place 0) obs
      ≡ Some front)
  first_of_set place front inside none is f = (
    omega (arith, inside, up),
    rw (sym is) (at_front (λ o. o.set == set) front any f
        (λ o e. not_before set target o none e) (omega (arith, inside, up))
        (here (dec_le (suc front) place))),
  )
    where
      any : Obs
      any = record { set = 0; target = 0; value = 0 }

      its : (get_or obs place any).set ≡ set
      its = sym (is ∙ get_or-map (λ (o : Obs). o.set) obs place any 0 inside)

      up : front ≤ place
      up = by (dec_le (suc place) front)
        where
          by : Dec (suc place ≤ front) → front ≤ place
          by (yes y) =
              let other = not_before set target (get_or obs place any) none
              (f.before place any (omega arith) y) in
              let of = eq-eqb (get_or obs place any).set set its in
              cc
          by (no n) = omega (arith, n)

      here : Dec (suc front ≤ place) → ((get_or obs front any).set == set) ≡ true
      here (yes y) = same_set set target (get_or obs front any) (get_or obs place any)
          (ordered front place any y inside) its
          (f.from front any (omega arith) (omega (arith, y, inside)))
      here (no n) =
          let same : place ≡ front = omega (arith, up, n) in
          subst (λ k. ((get_or obs k any).set == set) ≡ true) same (eq-eqb _ set its)
