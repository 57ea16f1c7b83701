-- At a station of a file without fault no set and target is listed twice.
use Rattle.std.proofs.Common.{◌≡◌, ◌≢◌, ℕ, ◌+◌, ◌<◌, ◌≤◌, false, ◌&&◌, eqb, List, [], ◌∷◌, ◌++◌}
use Rattle.std.proofs.Common.{length, map, filter, reverse, Option, Some, refl, sym, ap, ◌∙◌, inl}
use Rattle.std.proofs.Common.{inr, ◌⊎◌, subst, arith}
use Rattle.std.specs.List.{AllPairs, AllByRecursion, AllZip, Contains, enumerate_from, filter_map}
use Rattle.std.specs.List.{flat_map, cons_option}
use Rattle.std.proofs.lemmas.Bool.{cases_Bool, and_parts, eqb-true, eq-eqb, false≢true}
use Rattle.std.proofs.lemmas.List.{reverse-append, length-map}
use Rattle.adjust_kernel.specs.declared.obs.Obs.{Obs}
use Rattle.adjust_kernel.specs.Matching.{Key, key_of_obs, observed}
use Rattle.station_book.specs.declared.face.Face.TheVariants.{One, Two}
use Rattle.station_book.specs.Limits.{FaceLimits}
use Rattle.station_book.specs.Blocks.{opens_set, number}
use Rattle.station_book.specs.Places.{History, Place, places, number_at, before, station, is_same}
use Rattle.station_book.specs.Places.{is_set, target_at, sets_of, station_readings, readings_of}
use Rattle.station_book.specs.Places.{targets_of, reading_in}
use Rattle.station_book.specs.Faults.{same_number, angles_at, open_sets, IsWithoutFault}
use Rattle.station_book.specs.Stations.{Pair, SurveyedStation, pair_of, pairs_in, IsObserved}
use Rattle.station_book.specs.Stations.{IsSurveyed, AreStations, stations_of, pairs_of}
use Rattle.station_book.proofs.lists.Elements.{all_from, in_contains, zip_left}
use Rattle.station_book.proofs.readings.CleanBlocks.{clean_set}
use Rattle.station_book.proofs.names.StationNames.{Pairwise, all_reverse, pairwise_snoc, each_false}
use Rattle.station_book.proofs.names.StationNames.{all_pairs}
use Rattle.station_book.proofs.places.FilePlaces.{OfFile, station_placed}
use Rattle.station_book.proofs.recorded.PairReadings.{readings_of_pair}
use Rattle.station_book.proofs.histories.ReadingHistories.{distinct_different}

module _ {X : Type 0} where
  all_append : (P : X → Type 0) (xs ys : List X) → AllByRecursion P xs → AllByRecursion P ys
      → AllByRecursion P (xs ++ ys)
  all_append P [] ys all more = more
  all_append P (x ∷ xs) ys all more = (all.0, all_append P xs ys all.1 more)

  all_weaker : (P Q : X → Type 0) → ((x : X) → P x → Q x) → (xs : List X) → AllByRecursion P xs
      → AllByRecursion Q xs
  all_weaker P Q f [] all = tt
  all_weaker P Q f (x ∷ xs) all = (f x all.0, all_weaker P Q f xs all.1)

  pairwise_append : (R : X → X → Type 0) (xs ys : List X) → Pairwise R xs → Pairwise R ys
      → AllByRecursion (λ x. AllByRecursion (R x) ys) xs → Pairwise R (xs ++ ys)
  pairwise_append R [] ys one two across = two
  pairwise_append R (x ∷ xs) ys one two across =
      (all_append (R x) xs ys one.0 across.0, pairwise_append R xs ys one.1 two across.1)

  pairwise_reverse : (R : X → X → Type 0) (xs : List X) → Pairwise R xs
      → Pairwise (λ a b. R b a) (reverse xs)
  pairwise_reverse R [] pairs = tt
  pairwise_reverse R (x ∷ xs) pairs =
      subst (Pairwise (λ a b. R b a)) (sym (reverse-append (x ∷ []) xs))
      (pairwise_snoc (λ a b. R b a) (reverse xs) x (pairwise_reverse R xs pairs.1)
      (all_reverse (R x) xs pairs.0))

-- The pairs stand by set, then by target.
abbrev Before : Pair → Pair → Type 0
Before a b = (a.set < b.set) ⊎ ((a.set ≡ b.set) × (a.target < b.target))

abbrev InSet : ℕ → ℕ → Pair → Type 0
InSet i n c = (c.set ≡ i) × (n ≤ c.target)

by_target : (i n : ℕ) (targets : List (List ℕ)) (rs : List Place) → Pairwise Before (filter_map
    (λ t. pair_of i t.0 (reading_in One t.1 rs) (reading_in Two t.1 rs))
    (enumerate_from n targets)) × AllByRecursion (InSet i n)
    (filter_map (λ t. pair_of i t.0 (reading_in One t.1 rs) (reading_in Two t.1 rs))
    (enumerate_from n targets))
by_target i n [] rs = (tt, tt)
by_target i n (t ∷ ts) rs = split (reading_in One t rs) (reading_in Two t rs)
    (by_target i (n + 1) ts rs) where
      rest : List Pair
      rest = filter_map (λ t. pair_of i t.0 (reading_in One t.1 rs) (reading_in Two t.1 rs))
          (enumerate_from (n + 1) ts)

      weaker : (c : Pair) → InSet i (n + 1) c → InSet i n c
      weaker c h = (h.0, (let l = h.1 in omega arith))

      split : (a b : Option Place) → Pairwise Before rest × AllByRecursion (InSet i (n + 1)) rest
          → Pairwise Before (cons_option (pair_of i n a b) rest)
          × AllByRecursion (InSet i n) (cons_option (pair_of i n a b) rest)
      split (Some a) (Some b) ih = (
        (
          all_weaker (InSet i (n + 1))
              (Before (record { set = i; target = n; first = angles_at a; second = angles_at b }))
              (λ c h. inr (sym h.0, (let l = h.1 in omega arith))) rest ih.1,
          ih.0,
        ),
        ((refl, omega arith), all_weaker (InSet i (n + 1)) (InSet i n) weaker rest ih.1),
      )
      split a b ih = (ih.0, all_weaker (InSet i (n + 1)) (InSet i n) weaker rest ih.1)

by_set : (h : History) (st : Place) (n : ℕ) (sets : List Place) →
    Pairwise Before (flat_map (λ s. pairs_in s.0 (targets_of st h) (readings_of s.1 h))
    (enumerate_from n sets)) × AllByRecursion (λ c. n ≤ c.set)
    (flat_map (λ s. pairs_in s.0 (targets_of st h) (readings_of s.1 h))
    (enumerate_from n sets))
by_set h st n [] = (tt, tt)
by_set h st n (s ∷ ss) = both (by_target n 0 (targets_of st h) (readings_of s h))
    (by_set h st (n + 1) ss) where
      own : List Pair
      own = pairs_in n (targets_of st h) (readings_of s h)

      rest : List Pair
      rest = flat_map (λ s. pairs_in s.0 (targets_of st h) (readings_of s.1 h))
          (enumerate_from (n + 1) ss)

      both : Pairwise Before own × AllByRecursion (InSet n 0) own
          → Pairwise Before rest × AllByRecursion (λ c. n + 1 ≤ c.set) rest
          → Pairwise Before (own ++ rest) × AllByRecursion (λ c. n ≤ c.set) (own ++ rest)
      both one two = (
        pairwise_append Before own rest one.0 two.0
            (all_weaker (InSet n 0) (λ c. AllByRecursion (Before c) rest)
            (λ c k. all_weaker (λ d. n + 1 ≤ d.set) (Before c)
            (λ d l. inl (let e = k.0 in omega (arith, l))) rest two.1) own one.1),
        all_append (λ c. n ≤ c.set) own rest
            (all_weaker (InSet n 0) (λ c. n ≤ c.set) (λ c k. let e = k.0 in omega arith) own one.1)
            (all_weaker (λ c. n + 1 ≤ c.set) (λ c. n ≤ c.set) (λ c l. omega (arith, l)) rest two.1),
      )

-- No two sets of a station have one number.
abbrev NumbersDiffer : Place → Place → Type 0
NumbersDiffer newer older = same_number (number_at older) (number_at newer) ≡ false

numbers_apart : (limits : FaceLimits) (h : History) (st : Place) → IsWithoutFault limits h
    → Pairwise NumbersDiffer (sets_of st h)
numbers_apart limits [] st clean = tt
numbers_apart limits (b ∷ past) st clean =
    let ih = numbers_apart limits past st clean.1 in
    elim (cases_Bool (opens_set b && is_same (station past) st)) [
      | inr f ↦ rw f ih
      | inl t ↦
          let parts = and_parts (opens_set b) (is_same (station past) st) t in
          let same : open_sets past ≡ sets_of st past =
          ap (λ (n : ℕ). filter (λ place. is_set place && eqb (length (station (before place))) n)
          (places past)) (eqb-true (length (station past)) (length st) parts.1) in
          let others = each_false (λ s. same_number (number_at s) (number b))
          (open_sets past) (clean_set limits past b parts.0 clean.0).new_number in
          rw t (subst (AllByRecursion (NumbersDiffer (b ∷ past))) same others, ih)
    ]

apart_numbers : (x y : Place) (n m : ℕ) → number_at x ≡ Some n → number_at y ≡ Some m
    → same_number (number_at x) (number_at y) ≡ false → n ≢ m
apart_numbers x y n m ex ey f = λ e. false≢true
    (sym f ∙ (λ i. same_number (ex i) (ey i)) ∙ eq-eqb n m e)

apart_from : (x : Place) (n : ℕ) (xs : List Place) (ns : List ℕ) → number_at x ≡ Some n
    → map number_at xs ≡ map (λ m. Some m) ns
    → AllByRecursion (λ y. same_number (number_at x) (number_at y) ≡ false) xs
    → AllByRecursion (λ m. n ≢ m) ns
apart_from x n [] [] ex e all = tt
apart_from x n (y ∷ ys) (m ∷ ns) ex e all =
    let head : number_at y ≡ Some m = cc in
    let tail : map number_at ys ≡ map (λ m. Some m) ns = cc in
    (apart_numbers x y n m ex head all.0, apart_from x n ys ns ex tail all.1)
apart_from x n ys ns ex e all = cc

different_numbers : (xs : List Place) (ns : List ℕ)
    → map number_at xs ≡ map (λ m. Some m) ns
    → Pairwise (λ a b. same_number (number_at a) (number_at b) ≡ false) xs
    → Pairwise (λ a b. a ≢ b) ns
different_numbers [] [] e pairs = tt
different_numbers (x ∷ xs) (n ∷ ns) e pairs =
    let head : number_at x ≡ Some n = cc in
    let tail : map number_at xs ≡ map (λ m. Some m) ns = cc in
    (apart_from x n xs ns head tail pairs.0, different_numbers xs ns tail pairs.1)
different_numbers xs ns e pairs = cc

-- So of two observations in order, the set or the target differs.
abbrev AreTwo : Key → Key → Type 0
AreTwo a b = a.set ≡ b.set → a.target ≢ b.target

record AreLists (sets : List ℕ) (targets : List (List ℕ)) : Type 0 where
  pub sets_differ : AllPairs (λ a b. a ≢ b) sets
  pub targets_differ : AllPairs (λ a b. a ≢ b) targets

abbrev Inside : List ℕ → List (List ℕ) → Pair → Type 0
Inside sets targets c = (c.set < length sets) × (c.target < length targets)

are_two : (limits : FaceLimits) (sets : List ℕ) (targets : List (List ℕ)) (c d : Pair) (o p : Obs)
    → AreLists sets targets → Before c d → Inside sets targets d
    → IsObserved limits c o → IsObserved limits d p
    → AreTwo (key_of_obs sets targets o) (key_of_obs sets targets p)
are_two limits sets targets c d o p lists (inl lt) inside io ip =
    λ e. absurd (lists.sets_differ o.set p.set 0
    (let x = io.set in let y = ip.set in omega (arith, lt))
    (let y = ip.set in let l = inside.0 in omega arith) e)
are_two limits sets targets c d o p lists (inr (same, lt)) inside io ip =
    λ e. lists.targets_differ o.target p.target []
    (let x = io.target in let y = ip.target in omega (arith, lt))
    (let y = ip.target in let l = inside.1 in omega arith)

two_from : (limits : FaceLimits) (sets : List ℕ) (targets : List (List ℕ)) (c : Pair) (o : Obs)
    (cs : List Pair) (os : List Obs) → AreLists sets targets
    → AllByRecursion (Before c) cs → AllByRecursion (Inside sets targets) cs → IsObserved limits c o
    → AllZip (IsObserved limits) cs os
    → AllByRecursion (AreTwo (key_of_obs sets targets o)) (map (key_of_obs sets targets) os)
two_from limits sets targets c o [] [] lists before inside own zip = tt
two_from limits sets targets c o (d ∷ cs) (p ∷ os) lists before inside own zip = (
  are_two limits sets targets c d o p lists before.0 inside.0 own zip.0,
  two_from limits sets targets c o cs os lists before.1 inside.1 own zip.1,
)
two_from limits sets targets c o cs os lists before inside own zip = absurd zip

all_two : (limits : FaceLimits) (sets : List ℕ) (targets : List (List ℕ)) (cs : List Pair)
    (os : List Obs) → AreLists sets targets
    → Pairwise Before cs → AllByRecursion (Inside sets targets) cs
    → AllZip (IsObserved limits) cs os → Pairwise AreTwo (map (key_of_obs sets targets) os)
all_two limits sets targets [] [] lists pairs inside zip = tt
all_two limits sets targets (c ∷ cs) (o ∷ os) lists pairs inside zip = (
  two_from limits sets targets c o cs os lists pairs.0 inside.1 zip.0 zip.1,
  all_two limits sets targets cs os lists pairs.1 inside.1 zip.1,
)
all_two limits sets targets cs os lists pairs inside zip = absurd zip

once : (limits : FaceLimits) (h : History) (st : Place) (s : SurveyedStation)
    → IsWithoutFault limits h → OfFile h st → IsSurveyed limits h st s
    → AllPairs AreTwo (observed s.station)
once limits h st s clean placed surveyed =
    all_pairs AreTwo (observed s.station)
    (all_two limits s.station.sets s.station.targets (pairs_of st h) s.station.obs lists
    (by_set h st 0 (reverse (sets_of st h))).0 inside surveyed.directions)
  where
    lists : AreLists s.station.sets s.station.targets
    lists = record {
      sets_differ = all_pairs (λ a b. a ≢ b) s.station.sets
          (different_numbers (reverse (sets_of st h)) s.station.sets surveyed.sets
          (pairwise_reverse NumbersDiffer (sets_of st h) (numbers_apart limits h st clean)));
      targets_differ = subst (AllPairs (λ a b. a ≢ b)) (sym surveyed.targets)
          (distinct_different (map target_at (station_readings st h)));
    }

    sets_long : length (reverse (sets_of st h)) ≡ length s.station.sets
    sets_long = sym (length-map (reverse (sets_of st h)) number_at)
        ∙ ap length surveyed.sets ∙ length-map s.station.sets (λ (n : ℕ). Some n)

    inside : AllByRecursion (Inside s.station.sets s.station.targets) (pairs_of st h)
    inside = all_from (Inside s.station.sets s.station.targets) (pairs_of st h) (λ c k.
        let p = readings_of_pair h st c placed k in (
          (let l = p.set_place.inside in omega (arith, sets_long)),
          subst (λ (ts : List (List ℕ)). c.target < length ts)
              (sym surveyed.targets) p.name_place.inside,
        ))

-- No set and target of a station is listed twice.
pub listed_once : (limits : FaceLimits) (h : History) (stations : List SurveyedStation)
    (s : SurveyedStation) → IsWithoutFault limits h → AreStations limits h stations
    → Contains stations s → AllPairs AreTwo (observed s.station)
unfolding AreStations
listed_once limits h stations s clean are listed =
    let own = zip_left (IsSurveyed limits h) (stations_of h) stations are s
    (in_contains s stations listed) in
    once limits h own.0 s clean (station_placed h own.0 own.1) own.2
