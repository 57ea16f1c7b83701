-- The fault of a measurement by what is kept is its fault by the blocks before it.
use Rattle.std.proofs.Common.{◌≡◌, ℕ, Bool, true, false, cond, not, leb, ltb, ◌&&◌, ◌||◌, List, []}
use Rattle.std.proofs.Common.{◌∷◌, length, get_or, Option, Some, None, is_none, is_some, Ok, refl}
use Rattle.std.proofs.Common.{sym, ap, ◌∙◌, unwrap_or}
use Rattle.std.specs.List.{AllByRecursion}
use Rattle.std.specs.Option.{option_map}
use Rattle.std.specs.Str.{bytes_eq}
use Rattle.std.proofs.lemmas.List.Folds.{list_any_at}
use Rattle.std.proofs.lemmas.List.Quantifiers.{position-Some}
use Rattle.std.proofs.lemmas.Slice.Eq.{bytes_eq-Decides}
use Rattle.station_book.specs.declared.face.Face.{Face}
use Rattle.station_book.specs.declared.face.Face.TheVariants.{One, Two}
use Rattle.station_book.specs.declared.fault.BookKind.{BookKind}
use Rattle.station_book.specs.declared.fault.BookKind.TheVariants as kinds
use Rattle.station_book.specs.Limits.{FaceLimits}
use Rattle.station_book.specs.declared.role.Role.TheVariants as roles
use Rattle.station_book.specs.declared.angles.Reading.{Reading}
use Rattle.station_book.specs.declared.stage.Stage.{Stage}
use Rattle.station_book.specs.declared.stage.Stage.TheVariants.{Outside, Station, BetweenSets}
use Rattle.station_book.specs.declared.stage.Stage.TheVariants.{InSet}
use Rattle.station_book.specs.Faults.{when, first_of, has_no_two_c, has_no_two_i, open_readings}
use Rattle.station_book.specs.Faults.{face, is_apart, reading_faults, faults_as, IsWithoutFault}
use Rattle.station_book.specs.State.{then_fault}
use Rattle.station_book.specs.Readings as said
use Rattle.station_book.specs.Slots.{face_reading, slot_at}
use Rattle.station_book.specs.StationState as entries
use Rattle.station_book.specs.StationState.{StationState, place_of}
use Rattle.station_book.specs.StationStates.{StationStates, last_of}
use Rattle.station_book.specs.State as states
use Rattle.gsi_word.specs.Blocks.{GsiBlock}
use Rattle.station_book.specs.Blocks.{has_two, lacks, angle_fault, is_of_face, other_face, angles}
use Rattle.station_book.specs.Blocks.{target}
use Rattle.station_book.specs.Places.{History, Place, is_among, is_open, reading_in}
use Rattle.station_book.specs.StateOfHistory.{angles_of, slot_of, slots_of, AreStates, IsStage}
use Rattle.station_book.specs.StateOfHistory.{stations_in}
use Rattle.station_book.specs.StandsFor.{StandsFor}
use Rattle.station_book.proofs.lists.JoinedLists.{absent}
use Rattle.station_book.proofs.places.Steps.{open_targets}
use Rattle.station_book.proofs.readings.FaceReadings.{IsKept, one_face, unseen}
use Rattle.station_book.proofs.readings.CleanBlocks.{open_kept}
use Rattle.station_book.proofs.histories.ReadingHistories.{slot_get}
use Rattle.station_book.proofs.histories.StateHistories.{open_has_set, open_state}
use Rattle.station_book.proofs.histories.TakenBlocks.{first_face, second_face}
use Rattle.station_book.proofs.histories.FileEnd.{slots_kept, some_angles}
use Rattle.station_book.proofs.faults.FaultOrder.{first_append}
use Rattle.std.proofs.lemmas.Bool.{and_right}

-- the faults of a reading in itself
abbrev own_faults : GsiBlock → List (Option BookKind)
own_faults b =
    when (has_two 21 b) (kinds.WordTwice 21)
    ∷ when (has_two 22 b) (kinds.WordTwice 22)
    ∷ when (lacks 22 b) kinds.NoZenith
    ∷ option_map kinds.Hz (angle_fault 21 b)
    ∷ option_map kinds.Zenith (angle_fault 22 b)
    ∷ when (not (is_of_face One b || is_of_face Two b)) kinds.FaceUnclear
    ∷ []

-- the tests of a reading with those before it
abbrev tests : Bool → Bool → Bool → Bool → List (Option BookKind)
tests taken many c i =
    when taken kinds.FaceTwice
    ∷ when many kinds.TooManyTargets
    ∷ when c kinds.TwoC
    ∷ when i kinds.TwoI
    ∷ []

-- the same, by the station's targets and the set's readings
abbrev later_faults : FaceLimits → List (List ℕ) → List Place → GsiBlock → List (Option BookKind)
later_faults limits targets rs b =
    tests (is_some (reading_in (face b) (target b) rs))
    (not (is_among targets (target b)) && leb 100 (length targets))
    (is_apart (has_no_two_c limits.two_c) (angles b)
    (angles_of (reading_in (other_face (face b)) (target b) rs)))
    (is_apart (has_no_two_i limits.two_i) (angles b)
    (angles_of (reading_in (other_face (face b)) (target b) rs)))

two_faces : (f s : Bool) → not (f || s) ≡ is_none (cond f (Some One) (cond s (Some Two) None))
two_faces false true = refl
two_faces f s = refl

unclear_as : (b : GsiBlock)
    → not (is_of_face One b || is_of_face Two b) ≡ is_none (said.face_of ((angles b).zenith))
unclear_as b =
    (λ i. not (first_face b i || second_face b i))
    ∙ two_faces (ltb 0 ((angles b).zenith) && ltb ((angles b).zenith) 20_000_000)
    (ltb 20_000_000 ((angles b).zenith) && ltb ((angles b).zenith) 40_000_000)

own_same : (b : GsiBlock) → own_faults b ≡ said.own_faults b
own_same b = λ i. when (has_two 21 b) (kinds.WordTwice 21)
    ∷ when (has_two 22 b) (kinds.WordTwice 22)
    ∷ when (lacks 22 b) kinds.NoZenith
    ∷ option_map kinds.Hz (angle_fault 21 b)
    ∷ option_map kinds.Zenith (angle_fault 22 b)
    ∷ when (unclear_as b i) kinds.FaceUnclear
    ∷ []

-- the face that is read is the face of the block
second_of : (f s : Bool) → (f ≡ true → s ≡ false)
    → unwrap_or (cond f (Some One) (cond s (Some Two) None)) One ≡ cond s Two One
second_of true s one = sym (ap (λ v. cond v Two One) (one refl))
second_of false true one = refl
second_of false false one = refl

face_as : (b : GsiBlock) → unwrap_or (said.face_of ((angles b).zenith)) One ≡ face b
face_as b =
    second_of (ltb 0 ((angles b).zenith) && ltb ((angles b).zenith) 20_000_000)
    (ltb 20_000_000 ((angles b).zenith) && ltb ((angles b).zenith) 40_000_000)
    (λ e. sym (second_face b) ∙ one_face b (first_face b ∙ e)) ∙ ap (λ v. cond v Two One)
    (sym (second_face b))

-- a reading as the definitions say it
abbrev reading_of : GsiBlock → Reading
reading_of b = record { target = target b; angles = angles b; face = face b }

reading_as : (b : GsiBlock) → said.reading b ≡ reading_of b
reading_as b = λ i. record { target = target b; angles = angles b; face = face_as b i }

reading_angles : (f : Face) (rs : List Place) (name : List ℕ)
    → face_reading f (slot_of rs name) ≡ angles_of (reading_in f name rs)
reading_angles One rs name = refl
reading_angles Two rs name = refl

new_target_tests : (many : Bool)
    → first_of (when many kinds.TooManyTargets ∷ []) ≡ first_of (tests false many false false)
new_target_tests true = refl
new_target_tests false = refl

old_target_tests : (taken c i : Bool)
    → first_of (when taken kinds.FaceTwice ∷ when c kinds.TwoC ∷ when i kinds.TwoI ∷ []) ≡ first_of
    (tests taken false c i)
old_target_tests true c i = refl
old_target_tests false c i = refl

-- a reading with those before it, by the targets and the slots
same_later : (limits : FaceLimits) (targets : List (List ℕ)) (rs : List Place) (b : GsiBlock)
    (e : StationState) → AllByRecursion (IsKept targets) rs → e.targets ≡ targets
    → e.slots ≡ slots_of targets rs
    → first_of (entries.state_faults limits e (reading_of b)) ≡ first_of
    (later_faults limits targets rs b)
same_later limits targets rs b e kept ts ss = split (place_of (target b) e.targets) refl where
  place : place_of (target b) e.targets ≡ place_of (target b) targets
  place = ap (place_of (target b)) ts

  split : (o : Option ℕ) → place_of (target b) e.targets ≡ o
      → first_of (entries.state_faults_at limits e (reading_of b) o) ≡ first_of
      (later_faults limits targets rs b)
  split None p =
      let out : is_among targets (target b) ≡ false = absent (λ x. bytes_eq x (target b)) targets
      (sym place ∙ p) in
      let one = unseen targets rs (target b) (face b) kept out in
      let other = unseen targets rs (target b) (other_face (face b)) kept out in
      new_target_tests (leb 100 (length e.targets))
      ∙ (λ i. first_of (tests false (leb 100 (length (ts i))) false false))
      ∙ sym (λ i. first_of (tests (is_some (one i)) (not (out i) && leb 100 (length targets))
      (is_apart (has_no_two_c limits.two_c) (angles b) (angles_of (other i)))
      (is_apart (has_no_two_i limits.two_i) (angles b) (angles_of (other i)))))
  split (Some n) p =
      let at = position-Some (λ x. bytes_eq x (target b)) targets n [] (sym place ∙ p) in
      let here : get_or targets n [] ≡ target b =
      (bytes_eq-Decides (get_or targets n []) (target b)).0 at.1 in
      let among : is_among targets (target b) ≡ true = list_any_at
      (λ x. bytes_eq x (target b)) targets n [] at.0 at.1 in
      let slot : slot_at e.slots n ≡ slot_of rs (target b) = ap (λ s. slot_at s n) ss
      ∙ slot_get targets rs n [] at.0 ∙ ap (slot_of rs) here in
      let taken : is_some (face_reading (face b) (slot_at e.slots n)) ≡ is_some
      (reading_in (face b) (target b) rs) =
      ap (λ s. is_some (face_reading (face b) s)) slot ∙ ap is_some
      (reading_angles (face b) rs (target b))
      ∙ some_angles (reading_in (face b) (target b) rs) in
      let other : face_reading (other_face (face b)) (slot_at e.slots n) ≡ angles_of
      (reading_in (other_face (face b)) (target b) rs) = ap
      (face_reading (other_face (face b))) slot
      ∙ reading_angles (other_face (face b)) rs (target b) in
      (λ i. first_of (when (taken i) kinds.FaceTwice
      ∷ when (is_apart (has_no_two_c limits.two_c) (angles b) (other i)) kinds.TwoC
      ∷ when (is_apart (has_no_two_i limits.two_i) (angles b) (other i)) kinds.TwoI ∷ []))
      ∙ old_target_tests (is_some (reading_in (face b) (target b) rs))
      (is_apart (has_no_two_c limits.two_c) (angles b)
      (angles_of (reading_in (other_face (face b)) (target b) rs)))
      (is_apart (has_no_two_i limits.two_i) (angles b)
      (angles_of (reading_in (other_face (face b)) (target b) rs)))
      ∙ sym (λ i. first_of (tests (is_some (reading_in (face b) (target b) rs))
      (not (among i) && leb 100 (length targets))
      (is_apart (has_no_two_c limits.two_c) (angles b)
      (angles_of (reading_in (other_face (face b)) (target b) rs)))
      (is_apart (has_no_two_i limits.two_i) (angles b)
      (angles_of (reading_in (other_face (face b)) (target b) rs)))))

-- the same, in the open set
same_later_open : (limits : FaceLimits) (so_far : StationStates) (past : History) (b : GsiBlock)
    → IsWithoutFault limits past → is_open past ≡ true → AreStates past (stations_in past) so_far
    → first_of (entries.state_faults limits (last_of so_far) (said.reading b)) ≡ first_of
    (later_faults limits (open_targets past) (open_readings past) b)
same_later_open limits so_far past b w now h =
    let e = open_state so_far past (open_has_set past now) h in
    ap (λ s. first_of (entries.state_faults limits (last_of so_far) s)) (reading_as b)
    ∙ same_later limits (open_targets past) (open_readings past) b (last_of so_far)
    (open_kept limits past w) e.is.targets (slots_kept so_far past now h)

measured_parts : (limits : FaceLimits) (so_far : StationStates) (o : Option BookKind) (s : Reading)
    → states.measured limits so_far (said.unless_fault o s) ≡ then_fault o
    (first_of (entries.state_faults limits (last_of so_far) s))
measured_parts limits so_far None s = refl
measured_parts limits so_far (Some k) s = refl

-- a reading in the open set
same_measured : (limits : FaceLimits) (so_far : StationStates) (past : History) (b : GsiBlock)
    → IsWithoutFault limits past → is_open past ≡ true → AreStates past (stations_in past) so_far
    → states.measured limits so_far
    (said.unless_fault (first_of (said.own_faults b)) (said.reading b)) ≡ first_of
    (reading_faults limits past b)
same_measured limits so_far past b w now h =
    measured_parts limits so_far (first_of (said.own_faults b)) (said.reading b)
    ∙ (λ i. then_fault (first_of (sym (own_same b) i))
    (same_later_open limits so_far past b w now h i))
    ∙ sym (first_append (own_faults b)
    (later_faults limits (open_targets past) (open_readings past) b))

not_open : (sees now : Bool) (os : List (Option BookKind)) → now ≡ false
    → None ≡ first_of (cond (sees && now) os [])
not_open sees now os e = rw (and_right sees now e)

-- a measurement, by where it stands
by_stage : (limits : FaceLimits) (stage : Stage) (so_far : StationStates) (past : History)
    (b : GsiBlock) → IsWithoutFault limits past → IsStage stage past
    → AreStates past (stations_in past) so_far
    → cond (states.has_open_set stage) (states.measured limits so_far (said.read b)) None ≡ first_of
    (cond (not (lacks 21 b) && is_open past) (reading_faults limits past b) [])
by_stage limits Outside so_far past b w g h = not_open (not (lacks 21 b)) (is_open past)
    (reading_faults limits past b) g.1
by_stage limits (Station name) so_far past b w g h = not_open (not (lacks 21 b)) (is_open past)
    (reading_faults limits past b) g.3
by_stage limits BetweenSets so_far past b w g h = not_open (not (lacks 21 b)) (is_open past)
    (reading_faults limits past b) g.1
by_stage limits InSet so_far past b w g h = by (lacks 21 b) where
  by : (none : Bool) → states.measured limits so_far
      (cond none (Ok None) (said.unless_fault (first_of (said.own_faults b))
      (said.reading b))) ≡ first_of
      (cond (not none && is_open past) (reading_faults limits past b) [])
  by true = refl
  by false = same_measured limits so_far past b w g h
      ∙ sym (ap (λ v. first_of (cond v (reading_faults limits past b) [])) g)

-- THE LAW of a measurement: the fault by what is kept is the fault by the blocks before
pub same_measurement_fault : (k : states.State) (b : GsiBlock) (past : History)
    → StandsFor k.limits k past → states.fault_as roles.Measurement k b
    ≡ first_of (faults_as roles.Measurement k.limits past b)
same_measurement_fault k b past h =
    by_stage k.limits k.stage k.stations past b h.clean h.stage h.stations
