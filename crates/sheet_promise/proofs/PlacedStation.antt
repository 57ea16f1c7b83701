-- The one place of a whole file at which a station was set up, its sets and its readings.
use Rattle.std.proofs.Common.{◌≡◌, ℕ, true, ◌&&◌, List, [], ◌∷◌, length, Some, sym, ap, ◌∙◌}
use Rattle.std.proofs.Common.{subst}
use Rattle.std.proofs.lemmas.Bool.{and_parts, and_from, eq-eqb, eqb-true}
use Rattle.adjust_kernel.specs.Matching.{Key, key_of_row}
use Rattle.adjust_kernel.specs.declared.row.Row.{Row}
use Rattle.station_book.specs.declared.face.Face.{Face}
use Rattle.station_book.specs.declared.face.Face.TheVariants.{One, Two}
use Rattle.station_book.specs.declared.faces.Faces.{Faces}
use Rattle.station_book.specs.Limits.{FaceLimits}
use Rattle.station_book.specs.TwoFaces.{Angles}
use Rattle.station_book.specs.Blocks.{opens_station, is_of_face}
use Rattle.station_book.specs.Places.{History, Place, places, last, before, opening, station}
use Rattle.station_book.specs.Places.{is_same, is_set, is_reading, passes_at, sets_of}
use Rattle.station_book.specs.Places.{station_readings}
use Rattle.station_book.specs.Faults.{name_at, angles_at, IsWithoutFault, IsWholeFile}
use Rattle.station_book.specs.Stations.{stations_of}
use Rattle.station_book.specs.Recorded.{IsReadingOf, IsRecorded, IsRecordedWith}
use Rattle.station_book.proofs.lists.Elements.{In, in_contains, contains_in, in_filter, of_filter}
use Rattle.station_book.proofs.names.StationNames.{names_differ}
use Rattle.station_book.proofs.places.FilePlaces.{OfFile, same_of_file, owner_placed, set_of_reading}
use Rattle.station_book.proofs.places.FilePlaces.{set_station, listed_station}
use Rattle.station_book.proofs.places.FilePlaces.{one_named}
use Rattle.station_book.proofs.readings.OneReading.{one_reading}
use Rattle.sheet_promise.proofs.HeldAngles.{reads_angles, in_face, of_face}
use Rattle.sheet_promise.proofs.SetNumbers.{one_set}
use Rattle.sheet_promise.proofs.Placed.{IsPlacedSet, IsPlacedSetUp}
use Rattle.sheet_promise.proofs.Placed.{ReadsAngles, IsPlacedReading, IsPlacedRow}
use Rattle.sheet_promise.specs.Readings.{IsOnly, IsInFace}

-- The station of this name is listed in a whole file, by this place.
pub record StandsAt (limits : FaceLimits) (h : History) (name : List ℕ) (st : Place)
    : Type 0 where
  pub whole : IsWholeFile limits h
  pub listed : In st (stations_of h)
  pub has_name : name_at st ≡ Some name

module _ (limits : FaceLimits) (h : History) (name : List ℕ) (st : Place)
    (s : StandsAt limits h name st) where
  -- A set of a station of this name is of this one.
  its_set : (set : Place) → In set (places h) → is_set set ≡ true
      → name_at (station (before set)) ≡ Some name → station (before set) ≡ st
  its_set set placed set_is e =
      one_named name (stations_of h) (station (before set)) st
      (names_differ limits h s.whole.blocks) (set_station h set placed set_is) s.listed e s.has_name

  -- The station was set up there and nowhere else.
  pub only_set_up : IsOnly (IsPlacedSetUp h name) st
  only_set_up =
      let l = listed_station h st s.listed in
      record {
        is = record {
          has_name = s.has_name;
          set = l.set;
          its_set = record {
            placed = contains_in l.set (places h) l.placed;
            opened = l.is_set;
            of_station = l.of_station;
          };
        };
        only = λ other o.
            sym o.its_set.of_station ∙ its_set o.set
            (in_contains o.set (places h) o.its_set.placed) o.its_set.opened
            (ap name_at o.its_set.of_station ∙ o.has_name);
      }

-- A set of a station is one of its sets.
pub in_sets : (h : History) (st set : Place) → IsPlacedSet h st set → In set (sets_of st h)
in_sets h st set o =
    in_filter (λ place. is_set place && is_same (last opens_station (before place)) st) set
    (places h) (in_contains set (places h) o.placed)
    (and_from (is_set set) (is_same (station (before set)) st) o.opened
    (eq-eqb (length (station (before set))) (length st) (ap length o.of_station)))

pub of_sets : (h : History) (st set : Place) → OfFile h st → In set (sets_of st h)
    → IsPlacedSet h st set
of_sets h st set here listed =
    let own = of_filter (λ place. is_set place && is_same (last opens_station (before place)) st)
    set (places h) listed in
    let parts = and_parts (is_set set) (is_same (station (before set)) st) own.1 in
    record {
      placed = contains_in set (places h) own.0;
      opened = parts.0;
      of_station = same_of_file h (station (before set)) st
          (owner_placed opens_station h set own.0) here
          (eqb-true (length (station (before set))) (length st) parts.1);
    }

-- A reading of a station.
pub record IsItsReading (h : History) (st r : Place) : Type 0 where
  pub placed : In r (places h)
  pub reading : is_reading r ≡ true
  pub of_station : station (before r) ≡ st

pub in_readings : (h : History) (st r : Place) → IsItsReading h st r → In r (station_readings st h)
in_readings h st r o =
    in_filter (λ place. is_reading place && is_same (last opens_station (before place)) st) r
    (places h) o.placed
    (and_from (is_reading r) (is_same (station (before r)) st) o.reading
    (eq-eqb (length (station (before r))) (length st) (ap length o.of_station)))

pub of_readings : (h : History) (st r : Place) → OfFile h st → In r (station_readings st h)
    → IsItsReading h st r
of_readings h st r here listed =
    let own = of_filter
    (λ place. is_reading place && is_same (last opens_station (before place)) st) r
    (places h) listed in
    let parts = and_parts (is_reading r) (is_same (station (before r)) st) own.1 in
    record {
      placed = own.0;
      reading = parts.0;
      of_station = same_of_file h (station (before r)) st
          (owner_placed opens_station h r own.0) here
          (eqb-true (length (station (before r))) (length st) parts.1);
    }

-- The station of a reading is that of its set.
pub station_of_reading : (h : History) (r set : Place) → In r (places h) → is_reading r ≡ true
    → opening (before r) ≡ set → station (before r) ≡ station (before set)
station_of_reading h r set placed reading e =
    sym (set_of_reading h r placed reading).of_station
    ∙ ap (λ (p : Place). station (before p)) e

face_there : (f : Face) (r : Place) → passes_at (is_of_face f) r ≡ true
    → IsInFace f (angles_at r).zenith
face_there f [] e = cc
face_there f (b ∷ past) e = in_face f b e

passes_there : (f : Face) (r : Place) (read : Angles) → ReadsAngles r read
    → IsInFace f read.zenith → passes_at (is_of_face f) r ≡ true
passes_there f [] read reads is = absurd reads
passes_there f (b ∷ past) read reads is = of_face f b read.zenith reads.1 is

-- A reading that a file without fault has is one that reads its angles.
pub reading_in : (limits : FaceLimits) (h : History) (name : List ℕ) (set : Place)
    (target : List ℕ) (f : Face) (r : Place) → IsWithoutFault limits h
    → IsReadingOf h name set target f r → IsPlacedReading h set target f r
reading_in limits h name set target f r clean is = record {
  placed = is.placed;
  reading = is.reading;
  of_set = is.of_set;
  of_target = is.of_target;
  read = angles_at r;
  reads = reads_angles limits h r clean (in_contains r (places h) is.placed) is.reading;
  of_face = face_there f r is.of_face;
}

-- It is the only one of its set, target and face.
only_reading : (limits : FaceLimits) (h : History) (name : List ℕ) (set : Place)
    (target : List ℕ) (f : Face) (r : Place) → IsWithoutFault limits h
    → name_at (station (before set)) ≡ Some name → (is : IsReadingOf h name set target f r)
    → IsOnly (IsPlacedReading h set target f) r
only_reading limits h name set target f r clean named is = record {
  is = reading_in limits h name set target f r clean is;
  only = λ other o. one_reading limits h name set target f other r clean
      (record {
        placed = o.placed;
        reading = o.reading;
        of_station =
            ap name_at (station_of_reading h other set
            (in_contains other (places h) o.placed) o.reading o.of_set) ∙ named;
        of_set = o.of_set;
        of_target = o.of_target;
        of_face = passes_there f other o.read o.reads o.of_face;
      }) is;
}

module _ (limits : FaceLimits) (h : History) (name : List ℕ) (st : Place)
    (s : StandsAt limits h name st) where
  set_named : (k : Key) (r : IsRecorded limits h name k)
      → name_at (station (before r.set)) ≡ Some name
  set_named k r =
      ap name_at (sym (station_of_reading h r.first r.set
      (in_contains r.first (places h) r.face_one.placed) r.face_one.reading r.face_one.of_set))
      ∙ r.face_one.of_station

  -- The set of what was recorded is a set of the station.
  pub recorded_set : (k : Key) (r : IsRecorded limits h name k) → IsPlacedSet h st r.set
  recorded_set k r =
      let own = set_of_reading h r.first (in_contains r.first (places h) r.face_one.placed)
      r.face_one.reading in
      let placed : In r.set (places h) =
      subst (λ (p : Place). In p (places h)) r.face_one.of_set own.placed in
      let opened : is_set r.set ≡ true = ap is_set (sym r.face_one.of_set) ∙ own.is_set in
      record {
        placed = contains_in r.set (places h) placed;
        opened = opened;
        of_station = its_set limits h name st s r.set placed opened (set_named k r);
      }

  -- A row that was recorded with these face differences is a two-face direction of the station.
  pub two_face_row : (row : Row) (f : Faces) → IsRecordedWith limits h name (key_of_row row) f
      → IsPlacedRow limits h st row
  unfolding only_reading reading_in
  two_face_row row f w =
      let clean = s.whole.blocks in
      let k = key_of_row row in
      let r = w.recorded in
      let own = recorded_set k r in
      record {
        set = r.set;
        its_set = record {
          is = record { its_set = own; numbered = r.numbered };
          only = λ other o. one_set limits h st row.set other r.set clean
              (in_sets h st other o.its_set) (in_sets h st r.set own) o.numbered r.numbered;
        };
        first = r.first;
        face_one = only_reading limits h name r.set row.target One r.first clean
            (set_named k r) r.face_one;
        second = r.second;
        face_two = only_reading limits h name r.set row.target Two r.second clean
            (set_named k r) r.face_two;
        direction = r.direction;
        two_c = f.two_c;
        within_two_c = w.two_c;
        two_i = f.two_i;
        within_two_i = w.two_i;
      }
