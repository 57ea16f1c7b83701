-- A station of a whole file has an observation: its set has a reading, and no reading is lost.
use Rattle.std.proofs.Common.{◌≡◌, ◌≤◌, arith, Bool, true, false, cond, ◌&&◌, List, [], ◌∷◌, length}
use Rattle.std.proofs.Common.{Some, None, refl, sym, ap, ◌∙◌, inl, inr, ◌⊎◌}
use Rattle.std.specs.List.{Contains}
use Rattle.std.proofs.lemmas.Bool.{cases_Bool, or_right, or_left}
use Rattle.std.proofs.lemmas.List.{length-map}
use Rattle.gsi_word.specs.Blocks.{GsiBlock}
use Rattle.adjust_kernel.specs.Matching.{key_of_obs, observed}
use Rattle.station_book.specs.declared.fault.BookKind.TheVariants as kinds
use Rattle.station_book.specs.Limits.{FaceLimits}
use Rattle.station_book.specs.Blocks.{opens_station, opens_set, closes_set, is_opening}
use Rattle.station_book.specs.Places.{History, Place, places, last, before, opening, station}
use Rattle.station_book.specs.Places.{is_open, is_empty, is_set, is_reading, passes_at}
use Rattle.station_book.specs.Faults.{first_of, end_faults, IsWithoutFault, IsWholeFile}
use Rattle.station_book.specs.Faults.{fault_at_end, open_readings, name_at}
use Rattle.station_book.specs.Stations.{SurveyedStation, IsSurveyed, AreStations, stations_of}
use Rattle.station_book.specs.Recorded.{IsListed}
use Rattle.station_book.proofs.lists.Elements.{In, in_contains, contains_in, zip_left}
use Rattle.station_book.proofs.readings.CleanBlocks.{all_none, none_when}
use Rattle.station_book.proofs.places.FilePlaces.{listed_station, set_of_reading}
use Rattle.station_book.proofs.names.StationNames.{its_station}
use Rattle.station_book.proofs.recorded.WholeFile.{may_end, open_reading, no_reading_lost}
use Rattle.station_book.proofs.places.StationSets.{right_false}

-- a reading of this set
record HasReading (h : History) (set : Place) : Type 0 where
  pub read : Place
  pub placed : In read (places h)
  pub reading : is_reading read ≡ true
  pub of_set : opening (before read) ≡ set

later : (b : GsiBlock) (past : History) (set : Place) → HasReading past set
    → HasReading (b ∷ past) set
later b past set r = record {
  read = r.read;
  placed = inr r.placed;
  reading = r.reading;
  of_set = r.of_set;
}

some_in : (rs : List Place) → is_empty rs ≡ false → (r : Place) × In r rs
some_in [] e = cc
some_in (r ∷ rs) e = (r, inl refl)

-- a set that may end has a reading
open_has_reading : (past : History) (set : Place) → opening past ≡ set → is_set set ≡ true
    → first_of (end_faults past) ≡ None → HasReading past set
open_has_reading past set e s clean =
    let now : is_open past ≡ true = ap (λ (p : Place). passes_at opens_set p) e ∙ s in
    let some : is_empty (open_readings past) ≡ false =
    right_false (is_open past) (is_empty (open_readings past)) now
    (none_when (is_open past && is_empty (open_readings past)) kinds.EmptySet
    (all_none (end_faults past) clean).0) in
    let r = some_in (open_readings past) some in
    let own = open_reading past r.0 r.1 in
    record { read = r.0; placed = own.placed; reading = own.reading; of_set = own.of_set ∙ e }

opening_here : (b : GsiBlock) (past : History) (v : Bool) → is_opening b ≡ v
    → opening (b ∷ past) ≡ cond v (b ∷ past) (opening past)
opening_here b past v e = ap (λ (w : Bool). cond w (b ∷ past) (last is_opening past)) e

-- a set is open, or has a reading
open_or_read : (limits : FaceLimits) (h : History) (set : Place) → IsWithoutFault limits h
    → In set (places h) → is_set set ≡ true → (opening h ≡ set) ⊎ HasReading h set
open_or_read limits [] set clean placed s = absurd placed
open_or_read limits (b ∷ past) set clean (inl e) s =
    let opens : opens_set b ≡ true = ap (λ (p : Place). passes_at opens_set p) (sym e) ∙ s in
    inl (opening_here b past true
    (or_right (opens_station b) _ (or_left (opens_set b) (closes_set b) opens)) ∙ sym e)
open_or_read limits (b ∷ past) set clean (inr placed) s =
    elim (open_or_read limits past set clean.1 placed s) [
      | inr r ↦ inr (later b past set r)
      | inl e ↦ elim (cases_Bool (is_opening b)) [
        | inl o ↦ inr
            (later b past set (open_has_reading past set e s (may_end limits past b o clean.0)))
        | inr o ↦ inl (opening_here b past false o ∙ e)
      ]
    ]

set_has_reading : (limits : FaceLimits) (h : History) (set : Place) → IsWholeFile limits h
    → In set (places h) → is_set set ≡ true → HasReading h set
unfolding fault_at_end
set_has_reading limits h set whole placed s = elim
    (open_or_read limits h set whole.blocks placed s) [
      | inl e ↦ open_has_reading h set e s whole.ending
      | inr r ↦ r
    ]

some_length : {X : Type 0} (xs : List X) (x : X) → Contains xs x → 1 ≤ length xs
some_length xs x c = let inside = c.1 in omega arith

-- the station at which a reading is listed has the name of the reading's own
listed_name : (limits : FaceLimits) (h : History) (stations : List SurveyedStation) (r : Place)
    (l : IsListed limits h stations r)
    → name_at (station (before r)) ≡ Some l.surveyed.station.name
listed_name limits h stations r l = elim l.is_one [
  | inl e ↦ ap (λ (p : Place). name_at (station (before p))) (sym e)
      ∙ l.recorded.face_one.of_station
  | inr e ↦ ap (λ (p : Place). name_at (station (before p))) (sym e)
      ∙ l.recorded.face_two.of_station
]

-- THE LAW: a station has an observation
pub some_observation : (limits : FaceLimits) (h : History) (stations : List SurveyedStation)
    (s : SurveyedStation) → IsWholeFile limits h → AreStations limits h stations
    → Contains stations s → 1 ≤ length s.station.obs
unfolding AreStations
some_observation limits h stations s whole are among =
    let st = zip_left (IsSurveyed limits h) (stations_of h) stations are s
    (in_contains s stations among) in
    let set = listed_station h st.0 st.1 in
    let r = set_has_reading limits h set.set whole set.placed set.is_set in
    let l = no_reading_lost limits h stations r.read whole are
    (contains_in r.read (places h) r.placed) r.reading in
    let its : station (before r.read) ≡ st.0 =
    sym (set_of_reading h r.read r.placed r.reading).of_station
    ∙ ap (λ (p : Place). station (before p)) r.of_set ∙ set.of_station in
    let names : Some l.surveyed.station.name ≡ Some s.station.name =
    sym (listed_name limits h stations r.read l) ∙ ap name_at its ∙ st.2.name in
    let name : l.surveyed.station.name ≡ s.station.name = cc in
    let its_name = s.station.name in
    let one = (its_station limits h stations its_name s whole.blocks are).1 (among, refl) in
    let other = (its_station limits h stations its_name l.surveyed whole.blocks are).1
    (l.among, name) in
    let same : Some s ≡ Some l.surveyed = sym one ∙ other in
    let is : l.surveyed ≡ s = cc in
    let some : 1 ≤ length (observed l.surveyed.station) =
    some_length (observed l.surveyed.station) l.key l.listed in
    let keys : length (observed l.surveyed.station) ≡ length l.surveyed.station.obs =
    length-map l.surveyed.station.obs
    (key_of_obs l.surveyed.station.sets l.surveyed.station.targets) in
    let counted : length l.surveyed.station.obs ≡ length s.station.obs =
    ap (λ (x : SurveyedStation). length x.station.obs) is in
    omega arith
