-- The end of a set and of the file: the faults and the stations by what is kept are those by the
-- blocks.
use Rattle.std.proofs.Common.{◌≡◌, ℕ, true, false, ◌&&◌, ◌||◌, List, [], ◌∷◌, reverse, Option}
use Rattle.std.proofs.Common.{Some, None, is_some, is_none, refl, sym, ap, ◌∙◌, inl, inr, subst}
use Rattle.std.specs.List.{list_any, list_all, AllByRecursion}
use Rattle.std.specs.Str.{bytes_eq}
use Rattle.std.specs.Map.{values_of}
use Rattle.std.proofs.lemmas.List.{reverse-reverse}
use Rattle.std.proofs.lemmas.Slice.Eq.{bytes_eq-Decides}
use Rattle.station_book.specs.declared.face.Face.{Face}
use Rattle.station_book.specs.declared.face.Face.TheVariants.{One, Two}
use Rattle.station_book.specs.declared.fault.BookKind.TheVariants as kinds
use Rattle.station_book.specs.declared.stage.Stage.{Stage}
use Rattle.station_book.specs.declared.stage.Stage.TheVariants.{Outside, Station, BetweenSets}
use Rattle.station_book.specs.declared.stage.Stage.TheVariants.{InSet}
use Rattle.station_book.specs.Faults.{when, first_of, open_readings, has_one_face, fault_at_end}
use Rattle.station_book.specs.Faults.{face_at}
use Rattle.station_book.specs.Slots.{is_unread, is_single}
use Rattle.station_book.specs.StationStates.{StationStates, last_of, surveys_of}
use Rattle.station_book.specs.StationStates.{surveyed_so_far}
use Rattle.station_book.specs.Stations.{SurveyedStation}
use Rattle.station_book.specs.State.{State, ending}
use Rattle.station_book.specs.Places.{History, Place, station, opening, is_empty, is_open}
use Rattle.station_book.specs.Places.{reading_in, sets_of, station_readings, target_at}
use Rattle.station_book.specs.StateOfHistory.{in_set, angles_of, slot_of, slots_of, IsComputed}
use Rattle.station_book.specs.StateOfHistory.{AreStates, AreEarlier, stations_in, IsStage}
use Rattle.station_book.specs.StandsFor.{StandsFor}
use Rattle.station_book.proofs.lists.Elements.{In, any_to}
use Rattle.station_book.proofs.places.Steps.{open_targets}
use Rattle.station_book.proofs.readings.FaceReadings as faces
use Rattle.station_book.proofs.readings.FaceReadings.{IsKept, some_there}
use Rattle.station_book.proofs.readings.CleanBlocks.{open_kept}
use Rattle.station_book.proofs.readings.SetReadings.{open_in_set}
use Rattle.station_book.proofs.histories.StateHistories.{open_set, open_has_set, all_earlier}
use Rattle.station_book.proofs.histories.StateHistories.{open_state}
use Rattle.indexmap.proofs.ReorderLemmas.{map-reverse}
use Rattle.std.proofs.lemmas.Bool.{and_left, and_right}

-- There are angles exactly where there is a reading.
pub some_angles : (o : Option Place) → is_some (angles_of o) ≡ is_some o
some_angles None = refl
some_angles (Some p) = refl

none_angles : (o : Option Place) → is_none (angles_of o) ≡ is_none o
none_angles None = refl
none_angles (Some p) = refl

single_same : (rs : List Place) (name : List ℕ)
    → is_single (slot_of rs name) ≡ faces.is_single (faces.slot rs name)
single_same rs name = λ i.
    (some_angles (reading_in One name rs) i && none_angles (reading_in Two name rs) i) ||
    (none_angles (reading_in One name rs) i && some_angles (reading_in Two name rs) i)

singles_same : (targets : List (List ℕ)) (rs : List Place)
    → list_any is_single (slots_of targets rs) ≡ list_any faces.is_single (faces.slots targets rs)
singles_same [] rs = refl
singles_same (t ∷ ts) rs = λ i. single_same rs t i || singles_same ts rs i

all_unread : (targets : List (List ℕ)) → list_all is_unread (slots_of targets []) ≡ true
all_unread [] = refl
all_unread (t ∷ ts) = all_unread ts

not_all : (rs : List Place) (name : List ℕ) (targets : List (List ℕ)) → In name targets
    → is_unread (slot_of rs name) ≡ false → list_all is_unread (slots_of targets rs) ≡ false
not_all rs name [] h e = absurd h
not_all rs name (t ∷ ts) (inl h) e = and_left (is_unread (slot_of rs t)) _
    (ap (λ (n : List ℕ). is_unread (slot_of rs n)) (sym h) ∙ e)
not_all rs name (t ∷ ts) (inr h) e = and_right (is_unread (slot_of rs t)) _ (not_all rs name ts h e)

no_none : (o : Option Place) → is_some o ≡ true → is_none (angles_of o) ≡ false
no_none None e = cc
no_none (Some p) e = refl

seen : (f : Face) (rs : List Place) (name : List ℕ) → is_some (reading_in f name rs) ≡ true
    → is_unread (slot_of rs name) ≡ false
seen One rs name e = and_left (is_none (angles_of (reading_in One name rs))) _
    (no_none (reading_in One name rs) e)
seen Two rs name e = and_right (is_none (angles_of (reading_in One name rs))) _
    (no_none (reading_in Two name rs) e)

-- no slot is read exactly where there is no reading
empty_by_slots : (targets : List (List ℕ)) (rs : List Place) → AllByRecursion (IsKept targets) rs
    → is_empty rs ≡ list_all is_unread (slots_of targets rs)
empty_by_slots targets [] kept = sym (all_unread targets)
empty_by_slots targets (r ∷ rs) kept =
    let (name, listed, same) = any_to
    (λ other. bytes_eq other (target_at r)) targets kept.0.in_targets in
    let equal : target_at r ≡ name = sym ((bytes_eq-Decides name (target_at r)).0 same) in
    sym (not_all (r ∷ rs) name targets listed
    (seen (face_at r) (r ∷ rs) name
    (some_there (face_at r) name r (r ∷ rs) (inl refl) equal kept.0.has_face)))

-- the slots of the set that is open
pub slots_kept : (so_far : StationStates) (past : History) → is_open past ≡ true
    → AreStates past (stations_in past) so_far
    → (last_of so_far).slots ≡ slots_of (open_targets past) (open_readings past)
slots_kept so_far past now h =
    let e = open_state so_far past (open_has_set past now) h in
    let heads : opening past ∷ (open_set past now).older ≡ e.newest ∷ e.older =
    sym (open_set past now).sets ∙ e.sets in
    let newest : opening past ≡ e.newest = cc in
    e.is.slots
    ∙ (λ i. slots_of (open_targets past)
    (in_set (sym newest i) (station_readings (station past) past)))
    ∙ ap (slots_of (open_targets past)) (open_in_set past)

closed_end : (past : History) → is_open past ≡ false → fault_at_end past ≡ None
unfolding fault_at_end
closed_end past e = λ i. first_of
    (when (e i && is_empty (open_readings past)) kinds.EmptySet ∷ when
    (e i && has_one_face (open_readings past)) kinds.OneFace ∷ [])

-- THE LAW of the end: the fault by what is kept is the fault by the blocks
pub same_end : (k : State) (past : History) → StandsFor k.limits k past
    → ending k.stage k.stations ≡ fault_at_end past
unfolding fault_at_end
same_end k past h = by k.stage h.stage where
  by : (stage : Stage) → IsStage stage past → ending stage k.stations ≡ fault_at_end past
  by Outside g = sym (closed_end past g.1)
  by (Station name) g = sym (closed_end past g.3)
  by BetweenSets g = sym (closed_end past g.1)
  by InSet g =
      let slots = slots_kept k.stations past g h.stations in
      let kept = open_kept k.limits past h.clean in
      let none = empty_by_slots (open_targets past) (open_readings past) kept in
      let one = faces.one_face_by_slots (open_targets past) (open_readings past) kept
      ∙ sym (singles_same (open_targets past) (open_readings past)) in
      (λ i. first_of (when (list_all is_unread (slots i)) kinds.EmptySet ∷ when
      (list_any is_single (slots i)) kinds.OneFace ∷ []))
      ∙ (λ i. first_of (when (sym none i) kinds.EmptySet ∷ when (sym one i) kinds.OneFace ∷ []))
      ∙ (λ i. first_of (when (sym g i && is_empty (open_readings past)) kinds.EmptySet ∷ when
      (sym g i && has_one_face (open_readings past)) kinds.OneFace ∷ []))

-- what will be answered of these stations; both lists come the newest first
abbrev pub AreComputed : History → List Place → List SurveyedStation → Type 0
AreComputed h [] [] = Unit {0}
AreComputed h [] (s ∷ ss) = ⊥
AreComputed h (st ∷ sts) [] = ⊥
AreComputed h (st ∷ sts) (s ∷ ss) = IsComputed st (sets_of st h) (station_readings st h) s
    × AreComputed h sts ss

answers : (h : History) (sts : List Place) (es : List (List ℕ × SurveyedStation))
    → AreEarlier h sts es → AreComputed h sts (values_of es)
answers h [] [] k = k
answers h (st ∷ sts) (e ∷ es) k = (k.0.computed, answers h sts es k.1)
answers h sts es k = k

-- THE LAW of the answer: what is kept gives the stations of the blocks
pub same_stations : (k : State) (past : History) → StandsFor k.limits k past
    → AreComputed past (stations_in past) (reverse (surveys_of k.stations))
same_stations k past h =
    subst (λ (ss : List SurveyedStation). AreComputed past (stations_in past) ss)
    (ap values_of (sym (reverse-reverse all)) ∙ map-reverse (λ e. e.1) (reverse all))
    (answers past (stations_in past) all (all_earlier past (stations_in past) k.stations h.stations))
  where
    all : List (List ℕ × SurveyedStation)
    all = surveyed_so_far k.stations
