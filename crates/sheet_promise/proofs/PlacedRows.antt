-- The rows of an accepted sheet are the two-face directions of its station.
use Rattle.std.proofs.Common.{◌≡◌, ◌≢◌, ℕ, zero, suc, ◌<◌, true, false, Bool, List, [], ◌∷◌, ◌++◌, length}
use Rattle.std.proofs.Common.{map, reverse, Option, Some, refl, sym, ap, ◌∙◌, inl, inr, ◌⊎◌, subst}
use Rattle.std.proofs.Common.{cond}
use Rattle.std.specs.Prelude.{slice_index_or, ◌↔◌}
use Rattle.std.specs.List.{AllPairs, AllByRecursion, AllZip, Contains}
use Rattle.std.proofs.lemmas.List.{length-map}
use Rattle.std.proofs.lemmas.List.Elements.{All-from_recursion}
use Rattle.adjust_kernel.specs.Matching.{Key, key_of_row, keys_of, observed}
use Rattle.adjust_kernel.specs.Sheets.{SheetValue}
use Rattle.adjust_kernel.specs.declared.row.Row.{Row}
use Rattle.station_book.specs.declared.face.Face.TheVariants.{One, Two}
use Rattle.station_book.specs.declared.faces.Faces.{Faces}
use Rattle.station_book.specs.Limits.{FaceLimits}
use Rattle.station_book.specs.Places.{History, Place, places, number_at, before, opening, station}
use Rattle.station_book.specs.Places.{target_at, sets_of, station_readings}
use Rattle.station_book.specs.Places.{is_among, distinct}
use Rattle.station_book.specs.Faults.{name_at}
use Rattle.station_book.specs.Stations.{SurveyedStation, IsSurveyed, AreStations}
use Rattle.station_book.specs.Recorded.{IsRecorded, IsRecordedWith, IsListed}
use Rattle.station_book.proofs.lists.Elements.{In, in_contains, contains_in, all_in, in_map, of_map}
use Rattle.station_book.proofs.lists.Elements.{in_reverse, of_reverse}
use Rattle.station_book.proofs.histories.ReadingHistories.{distinct_different}
use Rattle.station_book.proofs.places.FilePlaces.{OfFile, station_placed}
use Rattle.station_book.proofs.recorded.ListedOnce.{listed_once}
use Rattle.station_book.proofs.recorded.PairReadings.{in_distinct}
use Rattle.station_book.proofs.recorded.WholeFile.{no_reading_lost}
use Rattle.sheet_promise.proofs.PlacedStation.{StandsAt, IsItsReading, in_sets, of_sets, in_readings}
use Rattle.sheet_promise.proofs.PlacedStation.{of_readings, station_of_reading, reading_in}
use Rattle.sheet_promise.proofs.PlacedStation.{recorded_set, two_face_row}
use Rattle.sheet_promise.proofs.SetNumbers.{different_numbers, HasReading, set_has_reading}
use Rattle.sheet_promise.proofs.Placed.{IsPlacedSet, IsPlacedReading, IsPlacedRow, IsOfPlacedRow}
use Rattle.sheet_promise.proofs.Placed.{ArePlacedRows}

-- What is in two joined lists is in one of them.
of_joined : {X : Type 0} (x : X) (xs ys : List X) → In x (xs ++ ys) → In x xs ⊎ In x ys
of_joined x [] ys h = inr h
of_joined x (y ∷ xs) ys (inl h) = inl (inl h)
of_joined x (y ∷ xs) ys (inr h) = elim (of_joined x xs ys h) [
  | inl k ↦ inl (inr k)
  | inr k ↦ inr k
]

one_more : (name n : List ℕ) (once older : List (List ℕ)) (v : Bool)
    → (In name once → In name older) → In name (cond v once (once ++ n ∷ []))
    → In name (n ∷ older)
one_more name n once older true rest k = inr (rest k)
one_more name n once older false rest k = elim (of_joined name once (n ∷ []) k) [
  | inl old ↦ inr (rest old)
  | inr new ↦ elim new [ inl e ↦ inl e | inr none ↦ absurd none ]
]

-- What stands once among names stands among them.
of_distinct : (name : List ℕ) (names : List (List ℕ)) → In name (distinct names) → In name names
of_distinct name [] listed = listed
of_distinct name (n ∷ older) listed =
    one_more name n (distinct older) older (is_among (distinct older) n)
    (of_distinct name older) listed

index_mapped : {X Y : Type 0} (f : X → Y) (xs : List X) (i : ℕ) (d : X)
    → slice_index_or (map f xs) i (f d) ≡ f (slice_index_or xs i d)
index_mapped f [] i d = refl
index_mapped f (x ∷ xs) zero d = refl
index_mapped f (x ∷ xs) (suc i) d = index_mapped f xs i d

-- No set and target has two rows, where none has two keys.
rows_once : (rows : List Row)
    → AllPairs (λ a b. a.set ≡ b.set → a.target ≢ b.target) (map key_of_row rows)
    → AllPairs (λ a b. a.set ≡ b.set → a.target ≢ b.target) rows
rows_once rows all i j d before inside =
    let here : j < length (map key_of_row rows) =
    subst (λ (n : ℕ). j < n) (sym (length-map rows key_of_row)) inside in
    let two = all i j (key_of_row d) before here in
    let a = index_mapped key_of_row rows i d in
    let b = index_mapped key_of_row rows j d in
    λ sets targets. two
    (ap (λ (k : Key). k.set) a ∙ sets ∙ sym (ap (λ (k : Key). k.set) b))
    (ap (λ (k : Key). k.target) a ∙ targets ∙ sym (ap (λ (k : Key). k.target) b))

some_is : {X : Type 0} (a b : X) → Some a ≡ Some b → a ≡ b
some_is a b e = cc

-- What an acceptance says of the station of a sheet.
pub record IsItsStation (limits : FaceLimits) (h : History) (sheet : SheetValue) (st : Place)
    : Type 0 where
  pub stations : List SurveyedStation
  pub surveyed : AreStations limits h stations
  pub its : SurveyedStation
  pub listed : Contains stations its
  pub only : (other : SurveyedStation) → Contains stations other
      → other.station.name ≡ sheet.name → other ≡ its
  pub stands : StandsAt limits h sheet.name st
  pub here : IsSurveyed limits h st its
  pub targets : map (λ d. d.name) sheet.directions ≡ its.station.targets
  pub sets : map (λ o. o.set) sheet.orientations ≡ its.station.sets
  pub rows : keys_of sheet ≡ observed its.station
  pub within : AllZip (IsRecordedWith limits h sheet.name) (keys_of sheet) its.faces

module _ (limits : FaceLimits) (h : History) (sheet : SheetValue) (st : Place)
    (x : IsItsStation limits h sheet st) where
  each_row : (rows : List Row) (fs : List Faces)
      → AllZip (IsRecordedWith limits h sheet.name) (map key_of_row rows) fs
      → AllByRecursion (IsPlacedRow limits h st) rows
  each_row [] fs zip = tt
  each_row (r ∷ rows) [] zip = absurd zip
  each_row (r ∷ rows) (f ∷ fs) zip =
      (two_face_row limits h sheet.name st x.stands r f zip.0, each_row rows fs zip.1)

  are_rows : AllByRecursion (IsPlacedRow limits h st) sheet.rows
  are_rows = each_row sheet.rows x.its.faces x.within

  this_row : (row : Row) → In row sheet.rows → IsPlacedRow limits h st row
  this_row row listed = all_in (IsPlacedRow limits h st) row sheet.rows are_rows listed

  -- What was recorded of a row are its two readings.
  of_recorded : (row : Row) (r : Place) → In row sheet.rows
      → (y : IsRecorded limits h sheet.name (key_of_row row)) → (y.first ≡ r) ⊎ (y.second ≡ r)
      → IsOfPlacedRow limits h st sheet.rows r
  of_recorded row r listed y is_one =
      let clean = x.stands.whole.blocks in
      let its = this_row row listed in
      let set : y.set ≡ its.set = its.its_set.only y.set (record {
        its_set = recorded_set limits h sheet.name st x.stands (key_of_row row) y;
        numbered = y.numbered;
      }) in
      let first : y.first ≡ its.first = its.face_one.only y.first
      (subst (λ (p : Place). IsPlacedReading h p row.target One
      y.first) set
      (reading_in limits h sheet.name y.set row.target One y.first clean y.face_one)) in
      let second : y.second ≡ its.second = its.face_two.only y.second
      (subst (λ (p : Place). IsPlacedReading h p row.target Two
      y.second) set
      (reading_in limits h sheet.name y.set row.target Two y.second clean y.face_two)) in
      record {
        row = row;
        listed = contains_in row sheet.rows listed;
        its = its;
        is_one = elim is_one [
          | inl e ↦ inl (sym first ∙ e)
          | inr e ↦ inr (sym second ∙ e)
        ];
      }

  name_of_listed : (r : Place) (l : IsListed limits h x.stations r)
      → name_at (station (before r)) ≡ Some l.surveyed.station.name
  name_of_listed r l = elim l.is_one [
    | inl e ↦ ap (λ (p : Place). name_at (station (before p))) (sym e)
        ∙ l.recorded.face_one.of_station
    | inr e ↦ ap (λ (p : Place). name_at (station (before p))) (sym e)
        ∙ l.recorded.face_two.of_station
  ]

  -- No reading of the station is left out.
  none_left_out : (r : Place) → IsItsReading h st r → IsOfPlacedRow limits h st sheet.rows r
  none_left_out r o =
      let l = no_reading_lost limits h x.stations r x.stands.whole x.surveyed
      (contains_in r (places h) o.placed) o.reading in
      let name : l.surveyed.station.name ≡ sheet.name = some_is _ _
      (sym (name_of_listed r l) ∙ ap name_at o.of_station ∙ x.stands.has_name) in
      let same : l.surveyed ≡ x.its = x.only l.surveyed l.among name in
      let listed : In l.key (keys_of sheet) =
      subst (λ (ks : List Key). In l.key ks) (sym x.rows)
      (subst (λ (s : SurveyedStation). In l.key (observed s.station)) same
      (in_contains l.key (observed l.surveyed.station) l.listed)) in
      let row = of_map key_of_row l.key sheet.rows listed in
      let both : (y : IsRecorded limits h sheet.name (key_of_row row.0))
      × ((y.first ≡ r) ⊎ (y.second ≡ r)) =
      subst (λ (k : Key). (y : IsRecorded limits h sheet.name k)
      × ((y.first ≡ r) ⊎ (y.second ≡ r))) (sym row.2)
      (subst (λ (n : List ℕ). (y : IsRecorded limits h n l.key)
      × ((y.first ≡ r) ⊎ (y.second ≡ r))) name (l.recorded, l.is_one)) in
      of_recorded row.0 r row.1 both.0 both.1

  st_placed : OfFile h st
  st_placed = station_placed h st x.stands.listed

  names_are : map (λ d. d.name) sheet.directions
      ≡ distinct (map target_at (station_readings st h))
  names_are = x.targets ∙ x.here.targets

  first_of_row : (row : Row) (its : IsPlacedRow limits h st row) → IsItsReading h st its.first
  first_of_row row its =
      let r = its.face_one.is in
      let placed = in_contains its.first (places h) r.placed in
      record {
        placed = placed;
        reading = r.reading;
        of_station = station_of_reading h its.first its.set placed r.reading r.of_set
            ∙ its.its_set.is.its_set.of_station;
      }

  target_of : (r : Place) (w : IsOfPlacedRow limits h st sheet.rows r) → target_at r ≡ w.row.target
  target_of r w = elim w.is_one [
    | inl e ↦ ap target_at (sym e) ∙ w.its.face_one.is.of_target
    | inr e ↦ ap target_at (sym e) ∙ w.its.face_two.is.of_target
  ]

  set_of : (r : Place) (w : IsOfPlacedRow limits h st sheet.rows r) → opening (before r) ≡ w.its.set
  set_of r w = elim w.is_one [
    | inl e ↦ ap (λ (p : Place). opening (before p)) (sym e) ∙ w.its.face_one.is.of_set
    | inr e ↦ ap (λ (p : Place). opening (before p)) (sym e) ∙ w.its.face_two.is.of_set
  ]

  row_of_target : (name : List ℕ) (r : Place) (w : IsOfPlacedRow limits h st sheet.rows r)
      → target_at r ≡ name → In name (map (λ r. r.target) sheet.rows)
  row_of_target name r w is =
      let e : w.row.target ≡ name = sym (target_of r w) ∙ is in
      subst (λ (n : List ℕ). In n (map (λ r. r.target) sheet.rows)) e
      (in_map (λ (r : Row). r.target) w.row sheet.rows (in_contains w.row sheet.rows w.listed))

  target_read : (name : List ℕ) → In name (map (λ d. d.name) sheet.directions)
      → In name (map (λ r. r.target) sheet.rows)
  target_read name listed =
      let r = of_map target_at name (station_readings st h)
      (of_distinct name (map target_at (station_readings st h)) (subst (In name) names_are listed))
      in
      row_of_target name r.0 (none_left_out r.0 (of_readings h st r.0 st_placed r.1)) r.2

  target_stated : (name : List ℕ) → In name (map (λ r. r.target) sheet.rows)
      → In name (map (λ d. d.name) sheet.directions)
  target_stated name listed =
      let row = of_map (λ (r : Row). r.target) name sheet.rows listed in
      let its = this_row row.0 row.1 in
      let e : target_at its.first ≡ name = its.face_one.is.of_target ∙ row.2 in
      subst (In name) (sym names_are)
      (in_distinct name (map target_at (station_readings st h))
      (subst (λ (n : List ℕ). In n (map target_at (station_readings st h))) e
      (in_map target_at its.first (station_readings st h)
      (in_readings h st its.first (first_of_row row.0 its)))))

  row_of_set : (n : ℕ) (set r : Place) (w : IsOfPlacedRow limits h st sheet.rows r)
      → opening (before r) ≡ set → number_at set ≡ Some n → In n (map (λ r. r.set) sheet.rows)
  row_of_set n set r w of_set number =
      let same : w.its.set ≡ set = sym (set_of r w) ∙ of_set in
      let e : w.row.set ≡ n = some_is w.row.set n
      (sym w.its.its_set.is.numbered ∙ ap number_at same ∙ number) in
      subst (λ (m : ℕ). In m (map (λ r. r.set) sheet.rows)) e
      (in_map (λ (r : Row). r.set) w.row sheet.rows (in_contains w.row sheet.rows w.listed))

  set_number_read : (n : ℕ) (set : Place) → IsPlacedSet h st set → number_at set ≡ Some n
      → HasReading h set → In n (map (λ r. r.set) sheet.rows)
  set_number_read n set own number q =
      row_of_set n set q.read
      (none_left_out q.read (record {
        placed = q.placed;
        reading = q.reading;
        of_station = station_of_reading h q.read set q.placed q.reading q.of_set
            ∙ own.of_station;
      })) q.of_set number

  set_read : (n : ℕ) → In n (map (λ o. o.set) sheet.orientations)
      → In n (map (λ r. r.set) sheet.rows)
  set_read n listed =
      let some : In (Some n) (map number_at (reverse (sets_of st h))) =
      subst (In (Some n)) (sym x.here.sets)
      (in_map (λ (m : ℕ). Some m) n x.its.station.sets (subst (In n) x.sets listed)) in
      let set = of_map number_at (Some n) (reverse (sets_of st h)) some in
      let own = of_sets h st set.0 st_placed (of_reverse set.0 (sets_of st h) set.1) in
      set_number_read n set.0 own set.2 (set_has_reading limits h set.0 x.stands.whole
      (in_contains set.0 (places h) own.placed) own.opened)

  set_stated : (n : ℕ) → In n (map (λ r. r.set) sheet.rows)
      → In n (map (λ o. o.set) sheet.orientations)
  set_stated n listed =
      let row = of_map (λ (r : Row). r.set) n sheet.rows listed in
      let its = this_row row.0 row.1 in
      let number : number_at its.set ≡ Some n = its.its_set.is.numbered
      ∙ ap (λ (m : ℕ). Some m) row.2 in
      let some : In (Some n) (map (λ (m : ℕ). Some m) x.its.station.sets) =
      subst (In (Some n)) x.here.sets
      (subst (λ (o : Option ℕ). In o (map number_at (reverse (sets_of st h)))) number
      (in_map number_at its.set (reverse (sets_of st h))
      (in_reverse its.set (sets_of st h) (in_sets h st its.set its.its_set.is.its_set)))) in
      let m = of_map (λ (m : ℕ). Some m) (Some n) x.its.station.sets some in
      subst (In n) (sym x.sets)
      (subst (λ (k : ℕ). In k x.its.station.sets) (some_is m.0 n m.2) m.1)

  both_ways : {Y : Type 0} (xs ys : List Y) → ((y : Y) → In y xs → In y ys)
      → ((y : Y) → In y ys → In y xs) → (y : Y) → Contains xs y ↔ Contains ys y
  both_ways xs ys there back y = (
    λ c. contains_in y ys (there y (in_contains y xs c)),
    λ c. contains_in y xs (back y (in_contains y ys c)),
  )

  pub placed_rows : ArePlacedRows limits h st sheet
  placed_rows = record {
    rows = All-from_recursion (IsPlacedRow limits h st) sheet.rows are_rows;
    once = rows_once sheet.rows
        (subst (AllPairs (λ a b. a.set ≡ b.set → a.target ≢ b.target)) (sym x.rows)
        (listed_once limits h x.stations x.its x.stands.whole.blocks x.surveyed x.listed));
    whole = λ r placed reading at. none_left_out r (record {
      placed = in_contains r (places h) placed;
      reading = reading;
      of_station = at;
    });
    targets = record {
      different = subst (AllPairs (λ a b. a ≢ b)) (sym names_are)
          (distinct_different (map target_at (station_readings st h)));
      each = both_ways (map (λ d. d.name) sheet.directions) (map (λ r. r.target) sheet.rows)
          target_read target_stated;
    };
    sets = record {
      different = subst (AllPairs (λ a b. a ≢ b)) (sym x.sets)
          (different_numbers limits h st x.its.station.sets x.stands.whole.blocks x.here.sets);
      each = both_ways (map (λ o. o.set) sheet.orientations) (map (λ r. r.set) sheet.rows)
          set_read set_stated;
    };
  }
