-- What is listed at a station is what the file recorded there: none is missing, none is added.
use Rattle.std.proofs.Common.{◌≡◌, ◌↔◌, ℕ, true, ◌&&◌, List, [], ◌∷◌, length, map, reverse, get_or}
use Rattle.std.proofs.Common.{Some, refl, sym, ap, ◌∙◌, inl, inr, subst}
use Rattle.std.specs.Prelude.{ℤ, pos}
use Rattle.std.specs.List.{Contains, AllZip}
use Rattle.std.proofs.lemmas.Bool.{and_from, eq-eqb}
use Rattle.adjust_kernel.specs.declared.obs.Obs.{Obs}
use Rattle.adjust_kernel.specs.Matching.{Key, key_of_obs, observed}
use Rattle.station_book.specs.declared.face.Face.{Face}
use Rattle.station_book.specs.declared.face.Face.TheVariants.{One, Two}
use Rattle.station_book.specs.declared.faces.Faces.{Faces}
use Rattle.station_book.specs.Limits.{FaceLimits, AreLimits}
use Rattle.station_book.specs.TwoFaces.{Angles, IsTwoC, IsTwoI, IsTwoFace}
use Rattle.station_book.specs.Blocks.{opens_station}
use Rattle.station_book.specs.Places.{number_at, History, Place, places, last, before, station}
use Rattle.station_book.specs.Places.{is_same, is_set, target_at, sets_of, station_readings}
use Rattle.station_book.specs.Places.{targets_of}
use Rattle.station_book.specs.Faults.{name_at, angles_at, IsWithoutFault}
use Rattle.station_book.specs.Stations.{Pair, SurveyedStation, IsObserved, HasFaces, IsSurveyed}
use Rattle.station_book.specs.Stations.{AreStations, stations_of, pairs_of}
use Rattle.station_book.specs.Recorded.{IsReadingOf, IsRecorded, IsRecordedWith, HasSet}
use Rattle.station_book.proofs.lists.Elements.{In, in_contains, contains_in, IsAt, place_in, in_map}
use Rattle.station_book.proofs.lists.Elements.{of_map, in_filter, in_reverse, zip_left, zip_right}
use Rattle.station_book.proofs.lists.Elements.{matched}
use Rattle.station_book.proofs.two_faces.OnePair.{one_two_face}
use Rattle.station_book.proofs.names.StationNames.{names_differ}
use Rattle.station_book.proofs.readings.OneReading.{is_of}
use Rattle.station_book.proofs.places.FilePlaces.{OfFile, station_placed, set_station}
use Rattle.station_book.proofs.places.FilePlaces.{set_of_reading, listed_station, one_named}
use Rattle.station_book.proofs.recorded.PairReadings.{IsRead, HasItsReadings, readings_of_pair}
use Rattle.station_book.proofs.recorded.PairReadings.{pair_of_readings, of_station_readings}
use Rattle.station_book.proofs.recorded.PairReadings.{in_distinct}

reading_of : (h : History) (st set : Place) (station target name : List ℕ) (f : Face) (r : Place)
    → name_at st ≡ Some station → name ≡ target
    → IsRead h st set name f r → IsReadingOf h station set target f r
reading_of h st set station target name f r named same read = record {
  placed = contains_in r (places h) read.placed;
  reading = read.is.reading;
  of_station = ap name_at read.of_station ∙ named;
  of_set = read.is.of_set;
  of_target = read.is.of_target ∙ same;
  of_face = read.is.of_face;
}

-- what two readings of a pair recorded
record IsRecordedBy (limits : FaceLimits) (h : History) (name : List ℕ) (k : Key)
    (a b : Place) : Type 0 where
  pub recorded : IsRecorded limits h name k
  pub first_is : recorded.first ≡ a
  pub second_is : recorded.second ≡ b

recorded_pair : (limits : FaceLimits) (h : History) (st : Place) (s : SurveyedStation)
    (c : Pair) (o : Obs) (f : Faces) (p : HasItsReadings h st c) → IsSurveyed limits h st s
    → IsObserved limits c o → HasFaces limits c f
    → IsRecordedBy limits h s.station.name
    (key_of_obs s.station.sets s.station.targets o) p.first p.second
recorded_pair limits h st s c o f p surveyed is differ = record {
  recorded = record {
    set = p.set;
    numbered = matched number_at
        (reverse (sets_of st h)) s.station.sets surveyed.sets o.set p.set set_place 0;
    first = p.first;
    second = p.second;
    face_one = reading_of h st p.set s.station.name
        (get_or s.station.targets o.target []) p.name One p.first surveyed.name same p.one;
    face_two = reading_of h st p.set s.station.name
        (get_or s.station.targets o.target []) p.name Two p.second surveyed.name same p.two;
    direction = subst (λ (a : Angles). IsTwoFace limits.two_c a (angles_at p.second) o.value)
        p.first_is
        (subst (λ (b : Angles). IsTwoFace limits.two_c c.first b o.value) p.second_is is.direction);
    difference = f.two_i;
    two_i = subst (λ (a : Angles). IsTwoI limits.two_i a (angles_at p.second) f.two_i)
        p.first_is
        (subst (λ (b : Angles). IsTwoI limits.two_i c.first b f.two_i) p.second_is differ.two_i);
  };
  first_is = refl;
  second_is = refl;
} where
  set_place : IsAt (reverse (sets_of st h)) o.set p.set
  set_place = subst (λ (k : ℕ). IsAt (reverse (sets_of st h)) k p.set) (sym is.set) p.set_place

  name_place : IsAt (targets_of st h) o.target p.name
  name_place = subst (λ (k : ℕ). IsAt (targets_of st h) k p.name) (sym is.target) p.name_place

  same : p.name ≡ get_or s.station.targets o.target []
  same = sym (name_place.value [])
      ∙ ap (λ (ts : List (List ℕ)). get_or ts o.target []) (sym surveyed.targets)

-- what was observed at a station was recorded
recorded_obs : (limits : FaceLimits) (h : History) (st : Place) (s : SurveyedStation) (o : Obs)
    → In st (stations_of h) → IsSurveyed limits h st s → In o s.station.obs
    → IsRecorded limits h s.station.name (key_of_obs s.station.sets s.station.targets o)
recorded_obs limits h st s o listed surveyed own =
    let c = zip_left (IsObserved limits)
    (pairs_of st h) s.station.obs surveyed.directions o own in
    let f = zip_right (HasFaces limits) (pairs_of st h) s.faces surveyed.differences c.0 c.1 in
    (recorded_pair limits h st s c.0 o f.0
    (readings_of_pair h st c.0 (station_placed h st listed) c.1) surveyed c.2 f.2).recorded

same_key : (a b : Key) → a.set ≡ b.set → a.target ≡ b.target → a.value ≡ b.value → a ≡ b
same_key a b s t v = λ i. record { set = s i; target = t i; value = v i }

same_some : (a b : ℕ) → Some a ≡ Some b → a ≡ b
same_some a b e = cc

-- what two readings of a set and target of a station gave, as it was observed
pub record IsPairObserved (limits : FaceLimits) (s : SurveyedStation) (set : Place)
    (target : List ℕ) (first second : Place) : Type 0 where
  pub obs : Obs
  pub listed : In obs s.station.obs
  pub of_set : number_at set ≡ Some (get_or s.station.sets obs.set 0)
  pub of_target : get_or s.station.targets obs.target [] ≡ target
  pub direction : IsTwoFace limits.two_c (angles_at first) (angles_at second) obs.value
  pub difference : ℤ
  pub two_i : IsTwoI limits.two_i (angles_at first) (angles_at second) difference

-- In a file without fault two readings, one of each face, are observed.
pub pair_observed : (limits : FaceLimits) (h : History) (st : Place) (s : SurveyedStation)
    (set : Place) (target : List ℕ) (first second : Place) → IsWithoutFault limits h
    → In st (stations_of h) → IsSurveyed limits h st s → In set (places h) → is_set set ≡ true
    → station (before set) ≡ st
    → IsRead h st set target One first → IsRead h st set target Two second
    → IsPairObserved limits s set target first second
pair_observed limits h st s set target first second clean listed surveyed set_placed set_is
    set_station_is one two = record {
      obs = o.0;
      listed = o.1;
      of_set = matched number_at
          (reverse (sets_of st h)) s.station.sets surveyed.sets i.0 set i.1 0
          ∙ ap (λ (n : ℕ). Some (get_or s.station.sets n 0)) (sym o.2.set);
      of_target = ap (λ (n : ℕ). get_or s.station.targets n []) o.2.target
          ∙ ap (λ (ts : List (List ℕ)). get_or ts j.0 []) surveyed.targets ∙ j.1.value [];
      direction = o.2.direction;
      difference = f.0.two_i;
      two_i = f.2.two_i;
    } where
      -- its place among the sets, and that of the target among the targets
      i : (i : ℕ) × IsAt (reverse (sets_of st h)) i set
      i = place_in (reverse (sets_of st h)) set (in_reverse set (sets_of st h)
          (in_filter (λ place. is_set place && is_same (last opens_station (before place)) st) set
          (places h) set_placed
          (and_from (is_set set) (is_same (station (before set)) st) set_is
          (eq-eqb (length (station (before set))) (length st) (ap length set_station_is)))))

      j : (j : ℕ) × IsAt (targets_of st h) j target
      j = place_in (targets_of st h) target
          (in_distinct target (map target_at (station_readings st h))
          (subst (λ (name : List ℕ). In name (map target_at (station_readings st h)))
          one.is.of_target
          (in_map target_at first (station_readings st h)
          (of_station_readings h st set target One first one))))

      pair : Pair
      pair = record { set = i.0; target = j.0; first = angles_at first; second = angles_at second }

      own : In pair (pairs_of st h)
      own = pair_of_readings limits h st set target i.0 j.0 first second clean
          (inr set_placed) i.1 j.1
          one two

      o : (o : Obs) × In o s.station.obs × IsObserved limits pair o
      o = zip_right (IsObserved limits) (pairs_of st h) s.station.obs surveyed.directions pair
          own

      f : (f : Faces) × In f s.faces × HasFaces limits pair f
      f = zip_right (HasFaces limits) (pairs_of st h) s.faces surveyed.differences pair own

-- what was recorded at a station was observed
observed_key : (limits : FaceLimits) (h : History) (st : Place) (s : SurveyedStation) (k : Key)
    → AreLimits limits → IsWithoutFault limits h
    → In st (stations_of h) → IsSurveyed limits h st s → IsRecorded limits h s.station.name k
    → In k (observed s.station)
observed_key limits h st s k small clean listed surveyed r =
    subst (λ (key : Key). In key (observed s.station)) same
    (in_map (key_of_obs s.station.sets s.station.targets) pair.obs s.station.obs pair.listed)
  where
    first_placed : In r.first (places h)
    first_placed = in_contains r.first (places h) r.face_one.placed

    first_set : Rattle.station_book.proofs.places.FilePlaces.HasItsSet h r.first
    first_set = set_of_reading h r.first first_placed r.face_one.reading

    second_set : Rattle.station_book.proofs.places.FilePlaces.HasItsSet h r.second
    second_set = set_of_reading h r.second
        (in_contains r.second (places h) r.face_two.placed) r.face_two.reading

    set_placed : In r.set (places h)
    set_placed = subst (λ (p : Place). In p (places h)) r.face_one.of_set first_set.placed

    set_is : is_set r.set ≡ true
    set_is = ap is_set (sym r.face_one.of_set) ∙ first_set.is_set

    -- both readings and the set are of the station
    first_station : station (before r.first) ≡ station (before r.set)
    first_station = sym first_set.of_station
        ∙ ap (λ (p : Place). station (before p)) r.face_one.of_set

    second_station : station (before r.second) ≡ station (before r.set)
    second_station = sym second_set.of_station
        ∙ ap (λ (p : Place). station (before p)) r.face_two.of_set

    set_station_is : station (before r.set) ≡ st
    set_station_is = one_named s.station.name (stations_of h) (station (before r.set)) st
        (names_differ limits h clean) (set_station h r.set set_placed set_is) listed
        (ap name_at (sym first_station) ∙ r.face_one.of_station) surveyed.name

    one : IsRead h st r.set k.target One r.first
    one = record {
      placed = first_placed;
      of_station = first_station ∙ set_station_is;
      is = is_of h s.station.name r.set k.target One r.first r.face_one;
    }

    two : IsRead h st r.set k.target Two r.second
    two = record {
      placed = in_contains r.second (places h) r.face_two.placed;
      of_station = second_station ∙ set_station_is;
      is = is_of h s.station.name r.set k.target Two r.second r.face_two;
    }

    pair : IsPairObserved limits s r.set k.target r.first r.second
    pair = pair_observed limits h st s r.set k.target r.first r.second clean listed surveyed
        set_placed set_is set_station_is one two

    same : key_of_obs s.station.sets s.station.targets pair.obs ≡ k
    same = same_key (key_of_obs s.station.sets s.station.targets pair.obs) k
        (same_some (get_or s.station.sets pair.obs.set 0) k.set (sym pair.of_set ∙ r.numbered))
        pair.of_target
        (one_two_face limits.two_c small.two_c (angles_at r.first)
        (angles_at r.second) pair.obs.value k.value pair.direction r.direction)

-- A direction is listed at a station exactly where the file recorded it there.
pub recorded : (limits : FaceLimits) (h : History) (stations : List SurveyedStation)
    (s : SurveyedStation) (k : Key)
    → AreLimits limits → IsWithoutFault limits h → AreStations limits h stations
    → Contains stations s → Contains (observed s.station) k ↔ IsRecorded limits h s.station.name k
unfolding AreStations
recorded limits h stations s k small clean are listed = (there, back) where
  own : (st : Place) × In st (stations_of h) × IsSurveyed limits h st s
  own = zip_left (IsSurveyed limits h) (stations_of h) stations are s
      (in_contains s stations listed)

  there : Contains (observed s.station) k → IsRecorded limits h s.station.name k
  there c =
      let o = of_map (key_of_obs s.station.sets s.station.targets) k s.station.obs
      (in_contains k (observed s.station) c) in
      subst (IsRecorded limits h s.station.name) o.2
      (recorded_obs limits h own.0 s o.0 own.1 own.2 o.1)

  back : IsRecorded limits h s.station.name k → Contains (observed s.station) k
  back r = contains_in k (observed s.station)
      (observed_key limits h own.0 s k small clean own.1 own.2 r)

-- The stations are those that have a set.
pub stations_with_sets : (limits : FaceLimits) (h : History) (stations : List SurveyedStation)
    (name : List ℕ) → AreStations limits h stations
    → ((s : SurveyedStation) × Contains stations s × (s.station.name ≡ name)) ↔ HasSet h name
unfolding AreStations
stations_with_sets limits h stations name are = (there, back) where
  there : (s : SurveyedStation) × Contains stations s × (s.station.name ≡ name) → HasSet h name
  there s =
      let own = zip_left (IsSurveyed limits h) (stations_of h) stations are s.0
      (in_contains s.0 stations s.1) in
      let l = listed_station h own.0 own.1 in
      record {
        set = l.set;
        placed = contains_in l.set (places h) l.placed;
        opened = l.is_set;
        of_station = ap name_at l.of_station ∙ own.2.name ∙ ap (λ (n : List ℕ). Some n) s.2;
      }

  back : HasSet h name → (s : SurveyedStation) × Contains stations s × (s.station.name ≡ name)
  back r =
      let st = station (before r.set) in
      let own = zip_right (IsSurveyed limits h) (stations_of h) stations are st
      (set_station h r.set (in_contains r.set (places h) r.placed) r.opened) in
      let names : Some own.0.station.name ≡ Some name = sym own.2.name ∙ r.of_station in
      (own.0, contains_in own.0 stations own.1, same_text own.0.station.name name names)
    where
      same_text : (a b : List ℕ) → Some a ≡ Some b → a ≡ b
      same_text a b e = cc

with_faces : (limits : FaceLimits) (h : History) (st : Place) (s : SurveyedStation) → OfFile h st
    → IsSurveyed limits h st s → (cs : List Pair) (os : List Obs) (fs : List Faces)
    → ((c : Pair) → In c cs → In c (pairs_of st h)) → AllZip (IsObserved limits) cs os
    → AllZip (HasFaces limits) cs fs → AllZip (IsRecordedWith limits h s.station.name)
    (map (key_of_obs s.station.sets s.station.targets) os) fs
with_faces limits h st s placed surveyed [] (o ∷ os) fs inside one two = absurd one
with_faces limits h st s placed surveyed (c ∷ cs) [] fs inside one two = absurd one
with_faces limits h st s placed surveyed [] [] [] inside one two = two
with_faces limits h st s placed surveyed [] [] (f ∷ fs) inside one two = two
with_faces limits h st s placed surveyed (c ∷ cs) (o ∷ os) [] inside one two = two
with_faces limits h st s placed surveyed (c ∷ cs) (o ∷ os) (f ∷ fs) inside one two = (
  head (readings_of_pair h st c placed (inside c (inl refl))),
  with_faces limits h st s placed surveyed cs os fs (λ d k. inside d (inr k)) one.1 two.1,
)
  where
    head : HasItsReadings h st c
        → IsRecordedWith limits h s.station.name (key_of_obs s.station.sets s.station.targets o) f
    head p =
        let r = recorded_pair limits h st s c o f p surveyed one.0 two.0 in
        let first : c.first ≡ angles_at r.recorded.first = p.first_is
        ∙ sym (ap angles_at r.first_is) in
        let second : c.second ≡ angles_at r.recorded.second = p.second_is
        ∙ sym (ap angles_at r.second_is) in
        record {
          recorded = r.recorded;
          two_c = subst (λ (a : Angles). IsTwoC limits.two_c a
              (angles_at r.recorded.second) f.two_c)
              first
              (subst (λ (b : Angles). IsTwoC limits.two_c c.first b f.two_c) second two.0.two_c);
          two_i = subst (λ (a : Angles). IsTwoI limits.two_i a
              (angles_at r.recorded.second) f.two_i)
              first
              (subst (λ (b : Angles). IsTwoI limits.two_i c.first b f.two_i) second two.0.two_i);
          zenith = two.0.zenith ∙ ap (λ (a : Angles). pos a.zenith) first;
        }

-- Beside each direction stand the face differences of its two readings.
pub recorded_faces : (limits : FaceLimits) (h : History) (stations : List SurveyedStation)
    (s : SurveyedStation) → AreStations limits h stations → Contains stations s
    → AllZip (IsRecordedWith limits h s.station.name) (observed s.station) s.faces
unfolding AreStations
recorded_faces limits h stations s are listed =
    let own = zip_left (IsSurveyed limits h) (stations_of h) stations are s
    (in_contains s stations listed) in
    with_faces limits h own.0 s (station_placed h own.0 own.1) own.2
    (pairs_of own.0 h) s.station.obs s.faces (λ c k. k) own.2.directions own.2.differences
