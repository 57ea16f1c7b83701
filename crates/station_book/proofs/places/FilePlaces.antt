-- The places of a file: the opening and the station of each are places of the file too.
use Rattle.std.proofs.Common.{◌≡◌, ℕ, ◌<◌, Bool, true, false, ◌&&◌, List, [], ◌∷◌, length, filter}
use Rattle.std.proofs.Common.{reverse, Some, refl, sym, ap, ◌∙◌, inl, inr, ◌⊎◌, subst, arith}
use Rattle.std.specs.List.{list_any, AllByRecursion}
use Rattle.std.proofs.lemmas.Bool.{cases_Bool, and_parts, and_from, eq-eqb, eqb-true, false≢true}
use Rattle.std.proofs.lemmas.Slice.Eq.{bytes_eq-Decides}
use Rattle.gsi_word.specs.Blocks.{GsiBlock}
use Rattle.station_book.specs.Blocks.{opens_station, opens_set, is_opening, has_direction}
use Rattle.station_book.specs.Places.{History, Place, places, last, before, opening, station}
use Rattle.station_book.specs.Places.{is_open, is_set, is_reading, is_same, is_empty, first_sets}
use Rattle.station_book.specs.Places.{readings_of, sets_of, station_readings, passes_at}
use Rattle.station_book.specs.Faults.{name_at, same_name}
use Rattle.station_book.specs.Stations.{stations_of}
use Rattle.station_book.specs.StateOfHistory.{in_set}
use Rattle.station_book.proofs.lists.Elements.{In, any_from, any_to, all_in, all_from, in_map}
use Rattle.station_book.proofs.lists.Elements.{of_map, in_reverse, of_reverse, of_filter}
use Rattle.station_book.proofs.places.Steps.{no_station_at_set, is_open-opening, is_open-other}
use Rattle.station_book.proofs.places.Steps.{opens_no_station, same_station}
use Rattle.station_book.proofs.places.StationSets.{any_station}
use Rattle.station_book.proofs.names.StationNames.{Pairwise, AreApart}
use Rattle.station_book.proofs.readings.OneReading.{length_place}

-- two places of one file that are as long are one
same_place : (h : History) (a b : Place) → In a (places h) → In b (places h)
    → length a ≡ length b → a ≡ b
same_place [] a b pa pb e = absurd pa
same_place (c ∷ past) a b (inl ea) (inl eb) e = ea ∙ sym eb
same_place (c ∷ past) a b (inl ea) (inr pb) e =
    let l : length a ≡ length (c ∷ past) = ap length ea in
    let m = length_place past b pb in absurd (omega arith)
same_place (c ∷ past) a b (inr pa) (inl eb) e =
    let l : length b ≡ length (c ∷ past) = ap length eb in
    let m = length_place past a pa in absurd (omega arith)
same_place (c ∷ past) a b (inr pa) (inr pb) e = same_place past a b pa pb e

some_block : (h : History) (a : Place) → In a (places h) → 0 < length a
some_block [] a placed = absurd placed
some_block (c ∷ past) a (inl e) = let l : length a ≡ length (c ∷ past) = ap length e in omega arith
some_block (c ∷ past) a (inr placed) = some_block past a placed

-- a place of the file, or no place
abbrev pub OfFile : History → Place → Type 0
OfFile h a = (a ≡ []) ⊎ In a (places h)

-- Two places of the file, or no place, that are as long are one.
pub same_of_file : (h : History) (a b : Place) → OfFile h a → OfFile h b → length a ≡ length b
    → a ≡ b
same_of_file h a b (inl x) (inl y) e = x ∙ sym y
same_of_file h a b (inl x) (inr p) e =
    let l : length a ≡ 0 = ap length x in let m = some_block h b p in absurd (omega arith)
same_of_file h a b (inr p) (inl y) e =
    let l : length b ≡ 0 = ap length y in let m = some_block h a p in absurd (omega arith)
same_of_file h a b (inr p) (inr q) e = same_place h a b p q e

-- The last block of a kind is a place of the file, or no place.
pub last_placed : (p : GsiBlock → Bool) (past : History) → OfFile past (last p past)
last_placed p [] = inl refl
last_placed p (b ∷ past) = elim (cases_Bool (p b)) [
  | inl t ↦ rw t (inr (inl refl))
  | inr f ↦
      let same : last p (b ∷ past) ≡ last p past = rw f in
      subst (OfFile (b ∷ past)) (sym same)
      (elim (last_placed p past) [ inl e ↦ inl e | inr k ↦ inr (inr k) ])
]

before_placed : (h : History) (r q : Place) → In r (places h) → In q (places (before r))
    → In q (places h)
before_placed [] r q placed k = absurd placed
before_placed (b ∷ past) r q (inl e) k = inr (subst (λ (x : Place). In q (places (before x))) e k)
before_placed (b ∷ past) r q (inr placed) k = inr (before_placed past r q placed k)

-- the last such place before a place
pub owner_placed : (p : GsiBlock → Bool) (h : History) (r : Place) → In r (places h)
    → OfFile h (last p (before r))
owner_placed p h r placed = elim (last_placed p (before r)) [
  | inl e ↦ inl e
  | inr k ↦ inr (before_placed h r (last p (before r)) placed k)
]

-- the station of an open set is the station
station_of_set : (past : History) → is_open past ≡ true
    → station (before (opening past)) ≡ station past
station_of_set [] e = cc
station_of_set (b ∷ past) e = elim (cases_Bool (is_opening b)) [
  | inl o ↦
      let set : opens_set b ≡ true = sym (is_open-opening b past o) ∙ e in
      rw o (sym (same_station b past (no_station_at_set b set)))
  | inr o ↦ rw o (station_of_set past (sym (is_open-other b past o) ∙ e)
      ∙ sym (same_station b past (opens_no_station b o)))
]

-- The set of a reading is a set of the file, and of the reading's station.
pub record HasItsSet (h : History) (r : Place) : Type 0 where
  pub placed : In (opening (before r)) (places h)
  pub is_set : is_set (opening (before r)) ≡ true
  pub of_station : station (before (opening (before r))) ≡ station (before r)

-- The set of a reading is the one that is open there.
pub set_of_reading : (h : History) (r : Place) → In r (places h) → is_reading r ≡ true
    → HasItsSet h r
set_of_reading h r placed reading =
    let now : is_open (before r) ≡ true =
    (and_parts (passes_at has_direction r) (is_open (before r)) reading).1 in
    record {
      placed = split now (owner_placed is_opening h r placed);
      is_set = now;
      of_station = station_of_set (before r) now;
    }
  where
    split : is_open (before r) ≡ true → OfFile h (opening (before r))
        → In (opening (before r)) (places h)
    split now (inl e) = let bad : false ≡ true = sym (ap (λ (p : Place). passes_at opens_set p) e)
        ∙ now in cc
    split now (inr k) = k

filter_both : {X : Type 0} (p o d : X → Bool) (xs : List X)
    → ((x : X) → In x xs → p x ≡ true → o x ≡ true → d x ≡ true)
    → filter (λ x. p x && o x) xs ≡ filter o (filter (λ x. p x && d x) xs)
filter_both p o d [] all = refl
filter_both p o d (x ∷ xs) all =
    let rest = filter_both p o d xs (λ y h. all y (inr h)) in elim (cases_Bool (p x)) [
      | inr t ↦ rw t rest
      | inl t ↦ elim (cases_Bool (o x)) [
        | inl s ↦ rw (t, s, all x (inl refl) t s, s) (ap (λ ys. x ∷ ys) rest)
        | inr s ↦ elim (cases_Bool (d x)) [
          | inl e ↦ rw (t, s, e, s) rest
          | inr e ↦ rw (t, s, e) rest
        ]
      ]
    ]

-- The readings of a set are those of its station that are of the set.
pub sets_readings : (h : History) (st : Place)
    → AllByRecursion (λ s. readings_of s h ≡ in_set s (station_readings st h)) (sets_of st h)
sets_readings h st = all_from (λ s. readings_of s h ≡ in_set s (station_readings st h))
    (sets_of st h) (λ s listed. same s (of_filter
    (λ place. is_set place && is_same (last opens_station (before place)) st) s (places h) listed))
  where
    same : (s : Place)
        → In s (places h) × ((is_set s && is_same (station (before s)) st) ≡ true)
        → readings_of s h ≡ in_set s (station_readings st h)
    same s (s_placed, own) =
        filter_both is_reading (λ r. is_same (opening (before r)) s)
        (λ r. is_same (station (before r)) st) (places h) (λ r placed reading of_set.
        let set = set_of_reading h r placed reading in
        let here : opening (before r) ≡ s = same_place h (opening (before r)) s set.placed s_placed
        (eqb-true (length (opening (before r))) (length s) of_set) in
        let its : station (before s) ≡ station (before r) =
        ap (λ (p : Place). station (before p)) (sym here) ∙ set.of_station in
        ap (λ (p : Place). is_same p st) (sym its)
        ∙ (and_parts (is_set s) (is_same (station (before s)) st) own).1)

-- the station of a set is listed
pub set_station : (h : History) (s : Place) → In s (places h) → is_set s ≡ true
    → In (station (before s)) (stations_of h)
set_station h s placed set =
    let found : list_any (λ q. is_set q && is_same (station (before q)) (station (before s)))
    (places h) ≡ true =
    any_from (λ q. is_set q && is_same (station (before q)) (station (before s))) s
    (places h) placed
    (and_from (is_set s) (is_same (station (before s)) (station (before s))) set
    (eq-eqb (length (station (before s))) (length (station (before s))) refl)) in
    let first = any_to (λ q. is_same (station (before q)) (station (before s))) (first_sets h)
    (sym (any_station (λ st. is_same st (station (before s))) h) ∙ found) in
    let q = first.0 in
    let q_placed : In q (places h) =
    (of_filter (λ place. is_set place && is_empty (sets_of (station (before place)) (before place)))
    q (places h) first.1).0 in
    let same : station (before q) ≡ station (before s) =
    same_of_file h (station (before q)) (station (before s))
    (owner_placed opens_station h q q_placed) (owner_placed opens_station h s placed)
    (eqb-true (length (station (before q))) (length (station (before s))) first.2) in
    subst (λ (st : Place). In st (stations_of h)) same
    (in_map (λ s. station (before s)) q (reverse (first_sets h))
    (in_reverse q (first_sets h) first.1))

-- a listed station is the station of a set
pub record IsStationOfSet (h : History) (st : Place) : Type 0 where
  pub set : Place
  pub placed : In set (places h)
  pub is_set : is_set set ≡ true
  pub of_station : station (before set) ≡ st

-- A station that is listed has a set in the file.
pub listed_station : (h : History) (st : Place) → In st (stations_of h) → IsStationOfSet h st
listed_station h st listed =
    let q = of_map (λ s. station (before s)) st (reverse (first_sets h)) listed in
    let r = of_filter (λ place. is_set place && is_empty
    (sets_of (station (before place)) (before place))) q.0 (places h)
    (of_reverse q.0 (first_sets h) q.1) in
    record {
      set = q.0;
      placed = r.0;
      is_set = (and_parts (is_set q.0)
          (is_empty (sets_of (station (before q.0)) (before q.0))) r.1).0;
      of_station = q.2;
    }

-- A station that is listed is a place of the file, or no place.
pub station_placed : (h : History) (st : Place) → In st (stations_of h) → OfFile h st
station_placed h st listed =
    let l = listed_station h st listed in
    subst (OfFile h) l.of_station (owner_placed opens_station h l.set l.placed)

-- of stations that are apart, one has a name
pub one_named : (name : List ℕ) (sts : List Place) (a b : Place) → Pairwise AreApart sts → In a sts
    → In b sts → name_at a ≡ Some name → name_at b ≡ Some name → a ≡ b
one_named name [] a b pairs ia ib na nb = absurd ia
one_named name (x ∷ xs) a b pairs (inl ea) (inl eb) na nb = ea ∙ sym eb
one_named name (x ∷ xs) a b pairs (inl ea) (inr ib) na nb =
    absurd (false≢true (sym (all_in (AreApart x) b xs pairs.0 ib)
    ∙ ap (λ (y : Place). same_name (name_at y) (name_at b)) (sym ea)
    ∙ (λ i. same_name (na i) (nb i)) ∙ (bytes_eq-Decides name name).1 refl))
one_named name (x ∷ xs) a b pairs (inr ia) (inl eb) na nb =
    absurd (false≢true (sym (all_in (AreApart x) a xs pairs.0 ia)
    ∙ ap (λ (y : Place). same_name (name_at y) (name_at a)) (sym eb)
    ∙ (λ i. same_name (nb i) (na i)) ∙ (bytes_eq-Decides name name).1 refl))
one_named name (x ∷ xs) a b pairs (inr ia)
    (inr ib) na nb = one_named name xs a b pairs.1 ia ib na nb
