-- In a whole file no reading is lost: each has one of the other face beside it, and the two are
-- listed.
use Rattle.std.proofs.Common.{◌≡◌, ℕ, ◌+◌, true, false, ◌&&◌, ◌||◌, List, [], ◌∷◌, ◌++◌, length}
use Rattle.std.proofs.Common.{get_or, Option, Some, None, is_none, refl, sym, ap, ◌∙◌, inl, inr}
use Rattle.std.proofs.Common.{◌⊎◌, subst}
use Rattle.std.specs.List.{Contains}
use Rattle.std.specs.Str.{bytes_eq}
use Rattle.std.proofs.lemmas.Bool.{cases_Bool, and_parts, eqb-true, false≢true}
use Rattle.std.proofs.lemmas.Slice.Eq.{bytes_eq-Decides}
use Rattle.adjust_kernel.specs.Matching.{key_of_obs, observed}
use Rattle.gsi_word.specs.Blocks.{GsiBlock}
use Rattle.station_book.specs.declared.face.Face.{Face}
use Rattle.station_book.specs.declared.face.Face.TheVariants.{One, Two}
use Rattle.station_book.specs.declared.fault.BookKind.{BookKind}
use Rattle.station_book.specs.declared.fault.BookKind.TheVariants as kinds
use Rattle.station_book.specs.declared.role.Role.{Role}
use Rattle.station_book.specs.declared.role.Role.TheVariants as roles
use Rattle.station_book.specs.Limits.{FaceLimits}
use Rattle.station_book.specs.Blocks.{role_of, is_station, is_set_code, is_close, opens_set}
use Rattle.station_book.specs.Blocks.{is_opening, has_direction, is_of_face, other_face}
use Rattle.station_book.specs.Places.{History, Place, places, last, before, opening, station}
use Rattle.station_book.specs.Places.{is_open, is_same, is_reading, target_at, passes_at}
use Rattle.station_book.specs.Places.{reading_in}
use Rattle.station_book.specs.Faults.{first_of, faults_as, end_faults, station_faults, set_faults}
use Rattle.station_book.specs.Faults.{fault_after, fault_at_end, IsWithoutFault, IsFaultOfBlock}
use Rattle.station_book.specs.Faults.{IsWholeFile, IsBookFault, open_readings, face_at}
use Rattle.station_book.specs.Faults.{has_one_face, name_at}
use Rattle.station_book.specs.Stations.{SurveyedStation, IsSurveyed, AreStations, stations_of}
use Rattle.station_book.specs.Recorded.{IsReadingOf, IsListed}
use Rattle.station_book.proofs.lists.Elements.{In, any_from, find_some, in_contains, contains_in}
use Rattle.station_book.proofs.lists.Elements.{in_map, of_filter, zip_right}
use Rattle.station_book.proofs.places.Steps.{readings-more, readings-other, direction_opens_nothing}
use Rattle.station_book.proofs.readings.CleanBlocks.{all_none, none_when, clean_reading}
use Rattle.station_book.proofs.faults.FirstFault.{fault_or_none, no_first_fault, one_first_fault}
use Rattle.station_book.proofs.places.FilePlaces.{HasItsSet, last_placed, owner_placed}
use Rattle.station_book.proofs.places.FilePlaces.{same_of_file, set_of_reading, set_station}
use Rattle.station_book.proofs.recorded.PairReadings.{IsRead}
use Rattle.station_book.proofs.recorded.Recorded.{IsPairObserved, pair_observed}
use Rattle.station_book.proofs.places.StationSets.{right_false}
use Rattle.station_book.proofs.readings.FaceReadings.{none_or_some}

-- a reading of the other face, in the set and of the target of this one
record HasOther (h : History) (r : Place) : Type 0 where
  pub other : Place
  pub placed : In other (places h)
  pub reading : is_reading other ≡ true
  pub of_set : opening (before other) ≡ opening (before r)
  pub of_target : target_at other ≡ target_at r
  pub of_face : passes_at (is_of_face (other_face (face_at r))) other ≡ true

other_later : (b : GsiBlock) (past : History) (r : Place) → HasOther past r → HasOther (b ∷ past) r
other_later b past r o = record {
  other = o.other;
  placed = inr o.placed;
  reading = o.reading;
  of_set = o.of_set;
  of_target = o.of_target;
  of_face = o.of_face;
}

-- a reading of the set that is open
pub record IsOpenReading (past : History) (r : Place) : Type 0 where
  pub placed : In r (places past)
  pub reading : is_reading r ≡ true
  pub of_set : opening (before r) ≡ opening past

-- What is listed as a reading of the open set is one.
pub open_reading : (past : History) (r : Place) → In r (open_readings past) → IsOpenReading past r
open_reading past r listed =
    let own = of_filter (λ place. is_reading place && is_same (last is_opening (before place))
    (opening past)) r (places past) listed in
    let parts = and_parts (is_reading r) (is_same (opening (before r)) (opening past)) own.1 in
    record {
      placed = own.0;
      reading = parts.0;
      of_set = same_of_file past (opening (before r)) (opening past)
          (owner_placed is_opening past r own.0) (last_placed is_opening past)
          (eqb-true (length (opening (before r))) (length (opening past)) parts.1);
    }

-- Where an open set may end, a reading of it has one of the other face.
other_in_open : (past : History) (r : Place) → In r (open_readings past)
    → first_of (end_faults past) ≡ None → HasOther past r
other_in_open past r listed clean = elim
    (none_or_some (reading_in (other_face (face_at r)) (target_at r) (open_readings past))) [
      | inl e ↦ absurd (false≢true (sym paired ∙ any_from (λ q. is_none
          (reading_in (other_face (face_at q)) (target_at q) (open_readings past))) r
          (open_readings past) listed (ap is_none e)))
      | inr s ↦
          let q = s.0 in
          let found = find_some
          (λ p. bytes_eq (target_at p) (target_at r)
          && passes_at (is_of_face (other_face (face_at r))) p) q
          (open_readings past) s.1 in
          let tests = and_parts (bytes_eq (target_at q) (target_at r))
          (passes_at (is_of_face (other_face (face_at r))) q) found.1 in
          let other = open_reading past q found.0 in
          record {
            other = q;
            placed = other.placed;
            reading = other.reading;
            of_set = other.of_set ∙ sym own.of_set;
            of_target = (bytes_eq-Decides (target_at q) (target_at r)).0 tests.0;
            of_face = tests.1;
          }
    ]
  where
    own : IsOpenReading past r
    own = open_reading past r listed

    now : is_open past ≡ true
    now = sym (ap (passes_at opens_set) own.of_set)
        ∙ (and_parts (passes_at has_direction r) (is_open (before r)) own.reading).1

    paired : has_one_face (open_readings past) ≡ false
    paired = right_false (is_open past) (has_one_face (open_readings past)) now
        (none_when (is_open past && has_one_face (open_readings past)) kinds.OneFace
        (all_none (end_faults past) clean).1.0)

first_left : {X : Type 0} (xs ys : List (Option X)) → first_of (xs ++ ys) ≡ None
    → first_of xs ≡ None
first_left (None ∷ xs) ys e = first_left xs ys e
first_left xs ys e = cc

-- where a block of code 10, 20 or 30 has no fault the set that was open may end
pub may_end : (limits : FaceLimits) (past : History) (b : GsiBlock) → is_opening b ≡ true
    → fault_after limits past b ≡ None → first_of (end_faults past) ≡ None
unfolding fault_after
may_end limits past b o clean = by (role_of b) o clean where
  by : (r : Role) → (is_station r || (is_set_code r || is_close r)) ≡ true
      → first_of (faults_as r limits past b) ≡ None → first_of (end_faults past) ≡ None
  by roles.Station t e = first_left (end_faults past) (station_faults b) e
  by roles.Set t e = first_left (end_faults past) (set_faults past b) e
  by roles.Close t e = e
  by r t e = cc

-- a reading is of the open set, or has one of the other face
open_or_paired : (limits : FaceLimits) (h : History) (r : Place) → IsWithoutFault limits h
    → In r (places h) → is_reading r ≡ true → In r (open_readings h) ⊎ HasOther h r
open_or_paired limits [] r clean placed reading = absurd placed
open_or_paired limits (b ∷ past) r clean (inl e) reading =
    let here : is_reading (b ∷ past) ≡ true = sym (ap is_reading e) ∙ reading in
    let o : is_opening b ≡ false = direction_opens_nothing b
    (and_parts (has_direction b) (is_open past) here).0 in
    inl (subst (In r) (sym (readings-more b past o here)) (inl e))
open_or_paired limits (b ∷ past) r clean (inr placed) reading =
    elim (open_or_paired limits past r clean.1 placed reading) [
      | inr other ↦ inr (other_later b past r other)
      | inl now ↦ elim (cases_Bool (is_opening b)) [
        | inl o ↦ inr (other_later b past r
            (other_in_open past r now (may_end limits past b o clean.0)))
        | inr o ↦ inl (elim (cases_Bool (is_reading (b ∷ past))) [
          | inl n ↦ subst (In r) (sym (readings-more b past o n)) (inr now)
          | inr n ↦ subst (In r) (sym (readings-other b past o n)) now
        ])
      ]
    ]

has_other : (limits : FaceLimits) (h : History) (r : Place) → IsWholeFile limits h
    → In r (places h) → is_reading r ≡ true → HasOther h r
unfolding fault_at_end
has_other limits h r whole placed reading = elim
    (open_or_paired limits h r whole.blocks placed reading) [
      | inl now ↦ other_in_open h r now whole.ending
      | inr other ↦ other
    ]

-- each reading has a face
has_face : (limits : FaceLimits) (h : History) (r : Place) → IsWithoutFault limits h
    → In r (places h) → is_reading r ≡ true → passes_at (is_of_face (face_at r)) r ≡ true
has_face limits [] r clean placed reading = absurd placed
has_face limits (b ∷ past) r clean (inl e) reading =
    let here : is_reading (b ∷ past) ≡ true = sym (ap is_reading e) ∙ reading in
    subst (λ (q : Place). passes_at (is_of_face (face_at q)) q ≡ true) (sym e)
    (clean_reading limits past b here clean.0).faced
has_face limits (b ∷ past) r clean
    (inr placed) reading = has_face limits past r clean.1 placed reading

-- two readings of a set and target of a station, one of each face, of which r is one
list_pair : (limits : FaceLimits) (h : History) (stations : List SurveyedStation)
    (s : SurveyedStation) (r first second : Place) → IsWithoutFault limits h
    → In s stations → In (station (before r)) (stations_of h)
    → IsSurveyed limits h (station (before r)) s → HasItsSet h r
    → IsRead h (station (before r)) (opening (before r)) (target_at r) One first
    → IsRead h (station (before r)) (opening (before r)) (target_at r) Two second
    → (first ≡ r) ⊎ (second ≡ r) → IsListed limits h stations r
list_pair limits h stations s r first second clean among listed surveyed set one two is_one =
    record {
      surveyed = s;
      among = contains_in s stations among;
      key = key_of_obs s.station.sets s.station.targets pair.obs;
      listed = contains_in (key_of_obs s.station.sets s.station.targets pair.obs)
          (observed s.station)
          (in_map (key_of_obs s.station.sets s.station.targets) pair.obs s.station.obs pair.listed);
      recorded = record {
        set = opening (before r);
        numbered = pair.of_set;
        first = first;
        second = second;
        face_one = reading_as One first one;
        face_two = reading_as Two second two;
        direction = pair.direction;
        difference = pair.difference;
        two_i = pair.two_i;
      };
      is_one = is_one;
    } where
      pair : IsPairObserved limits s (opening (before r)) (target_at r) first second
      pair = pair_observed limits h (station (before r)) s (opening (before r))
          (target_at r) first second clean listed surveyed set.placed set.is_set set.of_station one
          two

      reading_as : (f : Face) (q : Place)
          → IsRead h (station (before r)) (opening (before r)) (target_at r) f q
          → IsReadingOf h s.station.name (opening (before r))
          (get_or s.station.targets pair.obs.target []) f q
      reading_as f q read = record {
        placed = contains_in q (places h) read.placed;
        reading = read.is.reading;
        of_station = ap name_at read.of_station ∙ surveyed.name;
        of_set = read.is.of_set;
        of_target = read.is.of_target ∙ sym pair.of_target;
        of_face = read.is.of_face;
      }

-- THE LAW: no reading is lost
pub no_reading_lost : (limits : FaceLimits) (h : History) (stations : List SurveyedStation)
    (r : Place) → IsWholeFile limits h → AreStations limits h stations
    → Contains (places h) r → is_reading r ≡ true → IsListed limits h stations r
unfolding AreStations
no_reading_lost limits h stations r whole are contained reading = by (face_at r) refl where
  placed : In r (places h)
  placed = in_contains r (places h) contained

  set : HasItsSet h r
  set = set_of_reading h r placed reading

  other : HasOther h r
  other = has_other limits h r whole placed reading

  listed : In (station (before r)) (stations_of h)
  listed = subst (λ (st : Place). In st (stations_of h)) set.of_station
      (set_station h (opening (before r)) set.placed set.is_set)

  own : (s : SurveyedStation) × In s stations × IsSurveyed limits h (station (before r)) s
  own = zip_right (IsSurveyed limits h) (stations_of h) stations are (station (before r)) listed

  this : (f : Face) → face_at r ≡ f
      → IsRead h (station (before r)) (opening (before r)) (target_at r) f r
  this f e = record {
    placed = placed;
    of_station = refl;
    is = record {
      reading = reading;
      of_set = refl;
      of_target = refl;
      of_face = ap
          (λ v. passes_at (is_of_face v) r) (sym e) ∙ has_face limits h r whole.blocks placed
          reading;
    };
  }

  beside : (f : Face) → face_at r ≡ f
      → IsRead h (station (before r)) (opening (before r)) (target_at r) (other_face f) other.other
  beside f e = record {
    placed = other.placed;
    of_station = sym (set_of_reading h other.other other.placed other.reading).of_station
        ∙ ap (λ (p : Place). station (before p)) other.of_set ∙ set.of_station;
    is = record {
      reading = other.reading;
      of_set = other.of_set;
      of_target = other.of_target;
      of_face = sym (ap (λ v. passes_at (is_of_face (other_face v)) other.other) e) ∙ other.of_face;
    };
  }

  by : (f : Face) → face_at r ≡ f → IsListed limits h stations r
  by One e = list_pair limits h stations own.0 r r other.other whole.blocks own.1 listed own.2 set
      (this One e) (beside One e) (inl refl)
  by Two e = list_pair limits h stations own.0 r other.other r whole.blocks own.1 listed own.2 set
      (beside Two e) (this Two e) (inr refl)

-- A file is whole, or has a first fault: at a block or at its end.
pub whole_or_fault : (limits : FaceLimits) (h : History)
    → IsWholeFile limits h ⊎ ((number : ℕ) × (kind : BookKind) × IsBookFault limits h number kind)
whole_or_fault limits h = split (fault_or_none limits h) (fault_at_end h) refl where
  split : IsWithoutFault limits h ⊎ ((past : History) × (b : GsiBlock) × (kind : BookKind)
      × IsFaultOfBlock limits h past b kind)
      → (o : Option BookKind) → fault_at_end h ≡ o
      → IsWholeFile limits h ⊎ ((number : ℕ) × (kind : BookKind) × IsBookFault limits h number kind)
  split (inl clean) None e = inl (record { blocks = clean; ending = e })
  split (inl clean) (Some kind) e = inr (length h + 1, kind, inr (clean, e, refl))
  split (inr f) o e = inr (length f.0 + 1, f.2, inl (f.0, f.1, f.3, refl))

-- A whole file has no fault.
pub whole_has_none : (limits : FaceLimits) (h : History) (number : ℕ) (kind : BookKind)
    → IsWholeFile limits h → ¬ IsBookFault limits h number kind
whole_has_none limits h number kind whole
    (inl f) = no_first_fault limits h f.0 f.1 kind whole.blocks f.2
whole_has_none limits h number kind whole (inr f) = let bad : Some kind ≡ None = sym f.1
    ∙ whole.ending in cc

-- A file has at most one first fault, of one number and one kind.
pub one_file_fault : (limits : FaceLimits) (h : History) (m n : ℕ) (kind other : BookKind)
    → IsBookFault limits h m kind → IsBookFault limits h n other → (m ≡ n) × (kind ≡ other)
one_file_fault limits h m n kind other (inl f) (inl g) =
    let same = one_first_fault limits h f.0 g.0 f.1 g.1 kind other f.2 g.2 in
    (f.3 ∙ ap (λ (p : Place). length (before p) + 1) same.0 ∙ sym g.3, same.1)
one_file_fault limits h m n kind other (inl f) (inr g) = absurd
    (no_first_fault limits h f.0 f.1 kind g.0 f.2)
one_file_fault limits h m n kind other (inr f) (inl g) = absurd
    (no_first_fault limits h g.0 g.1 other f.0 g.2)
one_file_fault limits h m n kind other (inr f) (inr g) =
    let kinds : Some kind ≡ Some other = sym f.1 ∙ g.1 in
    (f.2 ∙ sym g.2, cc)
