-- The pairs of a station are its readings of one set and target, one of each face.
use Rattle.std.proofs.Common.{◌≡◌, ℕ, true, ◌&&◌, List, [], ◌∷◌, length, reverse, Option, Some}
use Rattle.std.proofs.Common.{None, refl, sym, ap, ◌∙◌, inl, inr, subst}
use Rattle.std.specs.Str.{bytes_eq}
use Rattle.std.specs.List.{enumerate_from}
use Rattle.std.proofs.lemmas.Bool.{and_parts, and_from, eq-eqb, eqb-true}
use Rattle.std.proofs.lemmas.Slice.Eq.{bytes_eq-Decides}
use Rattle.station_book.specs.declared.face.Face.{Face}
use Rattle.station_book.specs.declared.face.Face.TheVariants.{One, Two}
use Rattle.station_book.specs.Limits.{FaceLimits}
use Rattle.station_book.specs.Blocks.{opens_station, is_opening, is_of_face}
use Rattle.station_book.specs.Places.{History, Place, places, last, before, opening, station}
use Rattle.station_book.specs.Places.{is_same, is_set, is_reading, target_at, passes_at, reading_in}
use Rattle.station_book.specs.Places.{readings_of, sets_of, station_readings, targets_of, is_among}
use Rattle.station_book.specs.Places.{distinct}
use Rattle.station_book.specs.Faults.{angles_at, IsWithoutFault}
use Rattle.station_book.specs.Stations.{Pair, pair_of, pairs_in, pairs_of}
use Rattle.station_book.proofs.lists.Elements.{In, any_to, find_some, find_found, IsAt, in_filter}
use Rattle.station_book.proofs.lists.Elements.{of_filter, of_reverse, in_places, of_places}
use Rattle.station_book.proofs.lists.Elements.{in_filter_map, of_filter_map, in_flat_map}
use Rattle.station_book.proofs.lists.Elements.{of_flat_map}
use Rattle.station_book.proofs.readings.CleanBlocks.{among_new, among_more}
use Rattle.station_book.proofs.readings.OneReading.{IsOf, one_place}
use Rattle.station_book.proofs.places.FilePlaces.{OfFile, same_of_file, owner_placed}
use Rattle.station_book.proofs.places.FilePlaces.{set_of_reading}

-- a reading of this station, set, target and face
pub record IsRead (h : History) (st set : Place) (name : List ℕ) (f : Face)
    (r : Place) : Type 0 where
  pub placed : In r (places h)
  pub of_station : station (before r) ≡ st
  pub is : IsOf set name f r

-- what is found among the readings of a set is such a reading
reading_found : (h : History) (st set : Place) (name : List ℕ) (f : Face) (r : Place)
    → OfFile h set → station (before set) ≡ st
    → reading_in f name (readings_of set h) ≡ Some r → IsRead h st set name f r
reading_found h st set name f r set_placed set_station e =
    let found = find_some (λ r. bytes_eq (target_at r) name && passes_at (is_of_face f) r) r
    (readings_of set h) e in
    let tests = and_parts (bytes_eq (target_at r) name) (passes_at (is_of_face f) r) found.1 in
    let own = of_filter (λ place. is_reading place && is_same (last is_opening (before place)) set)
    r
    (places h) found.0 in
    let parts = and_parts (is_reading r) (is_same (opening (before r)) set) own.1 in
    let here : opening (before r) ≡ set = same_of_file h (opening (before r)) set
    (owner_placed is_opening h r own.0) set_placed
    (eqb-true (length (opening (before r))) (length set) parts.1) in
    record {
      placed = own.0;
      of_station = sym (set_of_reading h r own.0 parts.0).of_station
          ∙ ap (λ (p : Place). station (before p)) here ∙ set_station;
      is = record {
        reading = parts.0;
        of_set = here;
        of_target = (bytes_eq-Decides (target_at r) name).0 tests.0;
        of_face = tests.1;
      };
    }

-- Such a reading is one of its station.
pub of_station_readings : (h : History) (st set : Place) (name : List ℕ) (f : Face) (r : Place)
    → IsRead h st set name f r → In r (station_readings st h)
of_station_readings h st set name f r read =
    in_filter (λ place. is_reading place && is_same (last opens_station (before place)) st) r
    (places h) read.placed
    (and_from (is_reading r) (is_same (station (before r)) st) read.is.reading
    (eq-eqb (length (station (before r))) (length st) (ap length read.of_station)))

-- and in a file without fault each such reading is found
reading_listed : (limits : FaceLimits) (h : History) (st set : Place) (name : List ℕ) (f : Face)
    (r : Place) → IsWithoutFault limits h → OfFile h set → IsRead h st set name f r
    → reading_in f name (readings_of set h) ≡ Some r
reading_listed limits h st set name f r clean set_placed read = split
    (reading_in f name (readings_of set h)) refl where
      own : In r (readings_of set h)
      own = in_filter (λ place. is_reading place && is_same (last is_opening (before place)) set) r
          (places h) read.placed
          (and_from (is_reading r) (is_same (opening (before r)) set) read.is.reading
          (eq-eqb (length (opening (before r))) (length set) (ap length read.is.of_set)))

      set_station : station (before set) ≡ st
      set_station = ap (λ (p : Place). station (before p)) (sym read.is.of_set)
          ∙ (set_of_reading h r read.placed read.is.reading).of_station ∙ read.of_station

      split : (o : Option Place) → reading_in f name (readings_of set h) ≡ o
          → reading_in f name (readings_of set h) ≡ Some r
      split None e =
          absurd (find_found (λ r. bytes_eq (target_at r) name && passes_at (is_of_face f) r) r
          (readings_of set h) own
          (and_from (bytes_eq (target_at r) name) (passes_at (is_of_face f) r)
          ((bytes_eq-Decides (target_at r) name).1 read.is.of_target) read.is.of_face) e)
      split (Some q) e =
          let other = reading_found h st set name f q set_placed set_station e in
          e ∙ ap (λ (x : Place). Some x)
          (one_place limits h set name f q r clean other.placed read.placed other.is read.is)

-- the names of the targets, each once
pub in_distinct : (name : List ℕ) (names : List (List ℕ)) → In name names → In name (distinct names)
in_distinct name names listed =
    let found = any_to (λ m. bytes_eq m name) (distinct names) (among name names listed) in
    subst (λ (m : List ℕ). In m (distinct names))
    ((bytes_eq-Decides found.0 name).0 found.2) found.1
  where
    among : (name : List ℕ) (names : List (List ℕ)) → In name names
        → is_among (distinct names) name ≡ true
    among name [] h = absurd h
    among name (m ∷ older) (inl e) = ap (is_among (distinct (m ∷ older))) e
        ∙ among_new (distinct older) m
    among name (m ∷ older) (inr h) = among_more (distinct older) m name (among name older h)

-- what a pair is made of
record IsPairOf (s t : ℕ) (one two : Option Place) (c : Pair) : Type 0 where
  pub first : Place
  pub second : Place
  pub one_is : one ≡ Some first
  pub two_is : two ≡ Some second
  pub pair : record { set = s; target = t; first = angles_at first; second = angles_at second } ≡ c

pair_parts : (s t : ℕ) (one two : Option Place) (c : Pair) → pair_of s t one two ≡ Some c
    → IsPairOf s t one two c
pair_parts s t (Some a)
    (Some b) c e = record { first = a; second = b; one_is = refl; two_is = refl; pair = (cc) }
pair_parts s t one two c e = cc

-- the readings of a pair
pub record HasItsReadings (h : History) (st : Place) (c : Pair) : Type 0 where
  pub set : Place
  pub set_place : IsAt (reverse (sets_of st h)) c.set set
  pub name : List ℕ
  pub name_place : IsAt (targets_of st h) c.target name
  pub first : Place
  pub second : Place
  pub one : IsRead h st set name One first
  pub two : IsRead h st set name Two second
  pub first_is : c.first ≡ angles_at first
  pub second_is : c.second ≡ angles_at second

pair_at : (h : History) (st : Place) (c : Pair) (e : ℕ × Place) (t : ℕ × List ℕ) → OfFile h st
    → In e (enumerate_from 0 (reverse (sets_of st h))) → In t (enumerate_from 0 (targets_of st h))
    → IsPairOf e.0 t.0 (reading_in One t.1 (readings_of e.1 h))
    (reading_in Two t.1 (readings_of e.1 h)) c → HasItsReadings h st c
pair_at h st c e t st_placed e_in t_in j =
    at (of_places (reverse (sets_of st h)) e e_in) (of_places (targets_of st h) t t_in)
  where
    set_is : (k : ℕ) → e.0 ≡ k → k ≡ c.set
    set_is k same = sym same ∙ ap (λ (c : Pair). c.set) j.pair

    target_is : (k : ℕ) → t.0 ≡ k → k ≡ c.target
    target_is k same = sym same ∙ ap (λ (c : Pair). c.target) j.pair

    at : (k : ℕ) × (e.0 ≡ k) × IsAt (reverse (sets_of st h)) k e.1 × In e.1 (reverse (sets_of st h))
        → (k : ℕ) × (t.0 ≡ k) × IsAt (targets_of st h) k t.1 × In t.1 (targets_of st h)
        → HasItsReadings h st c
    at (i, i_is, i_at, set_in) (k, k_is, k_at, name_in) =
        let set = of_filter
        (λ place. is_set place && is_same (last opens_station (before place)) st) e.1 (places h)
        (of_reverse e.1 (sets_of st h) set_in) in
        let set_station : station (before e.1) ≡ st = same_of_file h (station (before e.1)) st
        (owner_placed opens_station h e.1 set.0) st_placed
        (eqb-true (length (station (before e.1))) (length st)
        (and_parts (is_set e.1) (is_same (station (before e.1)) st) set.1).1) in
        record {
          set = e.1;
          set_place = subst (λ (m : ℕ). IsAt (reverse (sets_of st h)) m e.1) (set_is i i_is) i_at;
          name = t.1;
          name_place = subst (λ (m : ℕ). IsAt (targets_of st h) m t.1) (target_is k k_is) k_at;
          first = j.first;
          second = j.second;
          one = reading_found h st e.1 t.1 One j.first (inr set.0) set_station j.one_is;
          two = reading_found h st e.1 t.1 Two j.second (inr set.0) set_station j.two_is;
          first_is = sym (ap (λ (c : Pair). c.first) j.pair);
          second_is = sym (ap (λ (c : Pair). c.second) j.pair);
        }

-- A pair of a station has its readings.
pub readings_of_pair : (h : History) (st : Place) (c : Pair) → OfFile h st → In c (pairs_of st h)
    → HasItsReadings h st c
readings_of_pair h st c st_placed listed =
    of_set (of_flat_map (λ s. pairs_in s.0 (targets_of st h) (readings_of s.1 h)) c
    (enumerate_from 0 (reverse (sets_of st h))) listed)
  where
    of_target : (e : ℕ × Place) → In e (enumerate_from 0 (reverse (sets_of st h)))
        → (t : ℕ × List ℕ) × In t (enumerate_from 0 (targets_of st h))
        × (pair_of e.0 t.0 (reading_in One t.1 (readings_of e.1 h))
        (reading_in Two t.1 (readings_of e.1 h)) ≡ Some c) → HasItsReadings h st c
    of_target e e_in (t, t_in, is) =
        pair_at h st c e t st_placed e_in t_in
        (pair_parts e.0 t.0 (reading_in One t.1 (readings_of e.1 h))
        (reading_in Two t.1 (readings_of e.1 h)) c is)

    of_set : (e : ℕ × Place) × In e (enumerate_from 0 (reverse (sets_of st h)))
        × In c (pairs_in e.0 (targets_of st h) (readings_of e.1 h)) → HasItsReadings h st c
    of_set (e, e_in, own) =
        of_target e e_in (of_filter_map
        (λ t. pair_of e.0 t.0 (reading_in One t.1 (readings_of e.1 h))
        (reading_in Two t.1 (readings_of e.1 h))) c (enumerate_from 0 (targets_of st h)) own)

-- In a file without fault two such readings are a pair.
pub pair_of_readings : (limits : FaceLimits) (h : History) (st set : Place) (name : List ℕ)
    (i j : ℕ)
    (first second : Place) → IsWithoutFault limits h → OfFile h set
    → IsAt (reverse (sets_of st h)) i set
    → IsAt (targets_of st h) j name
    → IsRead h st set name One first → IsRead h st set name Two second
    → In (record { set = i; target = j; first = angles_at first; second = angles_at second })
    (pairs_of st h)
pair_of_readings limits h st set name i j first second clean set_placed iat jat one two =
    in_flat_map (λ s. pairs_in s.0 (targets_of st h) (readings_of s.1 h)) (i, set) pair
    (enumerate_from 0 (reverse (sets_of st h))) (in_places (reverse (sets_of st h)) i set iat)
    (in_filter_map (λ t. pair_of i t.0 (reading_in One t.1 (readings_of set h))
    (reading_in Two t.1 (readings_of set h))) (j, name) pair
    (enumerate_from 0 (targets_of st h)) (in_places (targets_of st h) j name jat)
    (λ x. pair_of i j (reading_listed limits h st set name One first clean set_placed one
    x) (reading_listed limits h st set name Two second clean set_placed two x)))
  where
    pair : Pair
    pair = record { set = i; target = j; first = angles_at first; second = angles_at second }
